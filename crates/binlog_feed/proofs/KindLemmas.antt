-- What the kinds of earlier events imply.
use Rattle.std.proofs.Common.{◌≡◌, true, List, [], ◌∷◌, None, refl, ap, ◌∙◌}
use Rattle.feed_checks.specs.PastLists.{before_newest}
use Rattle.feed_checks.specs.Kinds.{Kind, Format, NextGtid, Begin, Commit, Rollback, Statement, Map, Rows, RealRotate, Ignored, Unshown, Unknown, BadBody, open_change, is_inside, is_begin, since_begin}
use Rattle.feed_transactions.specs.ReportLaws.{IsOpen}

-- one more kind of a transaction that is open
longer : (k : Kind) (past : List Kind) → open_change k ≡ None → since_begin (k ∷ past) ≡ k ∷ since_begin past → before_newest is_begin (k ∷ past) ≡ before_newest is_begin past → IsOpen past → IsOpen (k ∷ past)
longer k past o s b h = record {
  middle = k ∷ h.middle;
  older = h.older;
  split = ap (λ (ks : List Kind). k ∷ ks) h.split;
  unbroken = rw o h.unbroken;
  since_is = s ∙ ap (λ (ks : List Kind). k ∷ ks) h.since_is;
  before_is = b ∙ h.before_is;
}

-- inside a transaction means after a begin that nothing has closed
pub inside-open : (past : List Kind) → is_inside past ≡ true → IsOpen past
unfolding is_inside since_begin
inside-open [] h = absurd cc
inside-open (Begin ∷ past) h = record { middle = []; older = past; split = refl; unbroken = refl; since_is = refl; before_is = refl }
inside-open (Commit ∷ past) h = absurd cc
inside-open (Rollback ∷ past) h = absurd cc
inside-open (Format ∷ past) h = absurd cc
inside-open (NextGtid g ∷ past) h = longer (NextGtid g) past refl refl refl (inside-open past h)
inside-open (Statement q ∷ past) h = longer (Statement q) past refl refl refl (inside-open past h)
inside-open (Map m ∷ past) h = longer (Map m) past refl refl refl (inside-open past h)
inside-open (Rows r ∷ past) h = longer (Rows r) past refl refl refl (inside-open past h)
inside-open (RealRotate ∷ past) h = longer RealRotate past refl refl refl (inside-open past h)
inside-open (Ignored ∷ past) h = longer Ignored past refl refl refl (inside-open past h)
inside-open (Unshown ∷ past) h = longer Unshown past refl refl refl (inside-open past h)
inside-open (Unknown ∷ past) h = longer Unknown past refl refl refl (inside-open past h)
inside-open (BadBody ∷ past) h = longer BadBody past refl refl refl (inside-open past h)
