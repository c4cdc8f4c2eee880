-- What is kept and given of XA transactions is whole events.
use Rattle.std.specs.Prelude.{List, ℕ, IfSome}
use Rattle.std.specs.List.{All}
use Rattle.events_replaced.specs.PayloadContents.{AreWhole}
use Rattle.events_replaced.specs.XaStates.{XaState}

-- bytes that are whole events and nothing else
abbrev pub AreEvents : List ℕ → Type 0
AreEvents content = (events : List (List ℕ)) × AreWhole content events

-- the open transaction and those that are prepared are whole events
pub record KeepsEvents (s : XaState) : Type 0 where
  pub kept_are : IfSome s.kept AreEvents
  pub prepared_are : All (λ p. AreEvents p.events) s.prepared
