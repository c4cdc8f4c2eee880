-- Where a follower resumes: the description that is sent first, and the state between transactions.
use Rattle.std.proofs.Common.{◌≡◌, ℕ, Bool, true, false, not, ◌⊎◌, inl, inr, List, [], ◌∷◌, ◌++◌, Option, Some, None, refl, sym, ap, ◌∙◌}
use Rattle.std.specs.Prelude.{is_some, if◌then◌else◌}
use Rattle.std.specs.Option.{option_to_list}
use Rattle.std.proofs.lemmas.Bool.{eqb-true}
use Rattle.events_frames.specs.Descriptions.{Description}
use Rattle.events_frames.specs.Headers.{Header}
use Rattle.events_frames.specs.EventParts.{Parts}
use Rattle.events_frames.specs.Footers.{ChecksumSettings}
use Rattle.events_frames.specs.QueryTexts.{StatementTexts}
use Rattle.feed_checks.specs.declared.verdict.Verdict.{Verdict}
use Rattle.feed_checks.specs.declared.verdict.Verdict.TheVariants as verdicts
use Rattle.feed_checks.specs.PastLists.{first, when, onto}
use Rattle.feed_checks.specs.EventFields.{Event, log_pos_of, type_of, header_of, content, is_description, settings_for, own_parts, parts, in_force}
use Rattle.feed_checks.specs.BodyReaders.{is_description_body}
use Rattle.feed_checks.specs.Kinds.{Kind, Format, NextGtid, Begin, Commit, Rollback, Statement, Map, Rows, RealRotate, Ignored, Unshown, Unknown, BadBody, description_kind, kind_of_type, is_inside, waiting, kinds, kind_by, kind_of}
use Rattle.feed_checks.specs.Damage.{frame_fault, algorithm_fault, checksum_fault, body_fault, outer_fault, is_body_checked, damage_of}
use Rattle.feed_transactions.specs.Checks.{context_fault, rows_fault, inner_fault, fault_of}
use Rattle.feed_transactions.specs.Transactions.{Transaction, Stated, committed, kind_shows, shown_by}
use Rattle.feed_transactions.specs.Rules.{Rules, Judge, rules, up_to_fault, shown_after}
use Rattle.feed_transactions.specs.ReportLaws.{IsBetween, Each}
use Rattle.feed_transactions.proofs.RuleLemmas.{AreGood}
use Rattle.feed_transactions.proofs.BetweenLemmas.{in_force-cons}
use Rattle.feed_replication.specs.Serving.{newest_description}
use Rattle.feed_replication.proofs.PositionLemmas.{IsMild}

-- ---- damage is a fault

abbrev or_else : Option Verdict → Option Verdict → Option Verdict
or_else o p = elim o [ Some v ↦ Some v | None ↦ p ]

passes : (o p : Option Verdict) → or_else o p ≡ None → (o ≡ None) × (p ≡ None)
passes None p h = (refl, h)
passes (Some v) p h = absurd cc

body_first : (b p q : Option Verdict) → first (b ∷ p ∷ q ∷ []) ≡ None → b ≡ None
body_first None p q h = refl
body_first (Some v) p q h = absurd cc

abbrev looked : Bool → Option Verdict → Option Verdict
looked t b = elim t [ true ↦ b | false ↦ None ]

if_looked : (t : Bool) (b : Option Verdict) → b ≡ None → looked t b ≡ None
if_looked true b h = h
if_looked false b h = refl

pub mild : (f : List ℕ → ℕ) → IsMild (rules f)
unfolding fault_of damage_of
mild f past e h =
    let t = passes (outer_fault f e (in_force past)) (inner_fault (kinds past) (kind_of e (in_force past))) h in
    let b = if_looked (is_body_checked e) (body_fault (kind_of e (in_force past))) (body_first (body_fault (kind_of e (in_force past))) (context_fault (kinds past) (kind_of e (in_force past))) (rows_fault (kinds past) (kind_of e (in_force past))) t.1) in
    ap (λ (o : Option Verdict). or_else o (looked (is_body_checked e) (body_fault (kind_of e (in_force past))))) t.0 ∙ b

-- ---- what shows a transaction

-- no GTID waits within a transaction
abbrev pub IsQuiet : List Kind → Type 0
IsQuiet K = is_inside K ≡ true → waiting K ≡ None

not_inside : (b c : Bool) → first (first (when b verdicts.Inside ∷ when c verdicts.Inside ∷ []) ∷ None ∷ []) ≡ None → b ≡ true → ⊥
not_inside true c h k = cc
not_inside false c h k = cc

quiet-longer : (k : Kind) (K : List Kind) → inner_fault K k ≡ None → IsQuiet K → IsQuiet (k ∷ K)
unfolding is_inside waiting
quiet-longer Begin K n q h = refl
quiet-longer Commit K n q h = absurd cc
quiet-longer Rollback K n q h = absurd cc
quiet-longer Format K n q h = refl
quiet-longer (NextGtid g) K n q h = absurd (not_inside (is_inside K) (is_some (waiting K)) n h)
quiet-longer (Statement s) K n q h = refl
quiet-longer (Map m) K n q h = q h
quiet-longer (Rows r) K n q h = q h
quiet-longer RealRotate K n q h = q h
quiet-longer Ignored K n q h = q h
quiet-longer Unshown K n q h = q h
quiet-longer Unknown K n q h = q h
quiet-longer BadBody K n q h = q h

inside_then : (b : Bool) → first (when (not b) verdicts.Outside ∷ None ∷ []) ≡ None → b ≡ true
inside_then true h = refl
inside_then false h = absurd cc

-- an event that shows a transaction shows exactly one, with its position, and no transaction is open after it
pub record ShowsOne (k : Kind) (K : List Kind) (position : ℕ) (t : Transaction) (ts : List Transaction) : Type 0 where
  pub alone : ts ≡ []
  pub position_is : t.position ≡ position
  pub between : IsBetween (k ∷ K)

shows-none : (k : Kind) (K : List Kind) (position : ℕ) (t : Transaction) (ts : List Transaction) → [] ≡ t ∷ ts → ShowsOne k K position t ts
shows-none k K position t ts h = absurd (no h)
  where
    no : [] ≡ t ∷ ts → ⊥
    no e = cc

lone-one : (q : StatementTexts) (K : List Kind) (position : ℕ) (t : Transaction) (ts : List Transaction) (b : Bool) → is_inside K ≡ b
    → (elim b [ true ↦ [] | false ↦ record { gtid = waiting K; lines = Stated q ∷ []; position = position } ∷ [] ]) ≡ t ∷ ts → ShowsOne (Statement q) K position t ts
unfolding is_inside waiting
lone-one q K position t ts true i h = shows-none (Statement q) K position t ts h
lone-one q K position t ts false i h =
    let u : Transaction = record { gtid = waiting K; lines = Stated q ∷ []; position = position } in
    let e : u ≡ t = cc in
    record { alone = (let k : ts ≡ [] = cc in k); position_is = ap (λ (x : Transaction). x.position) (sym e); between = record { outside = i; none_waits = refl } }

pub shows-one : (k : Kind) (K : List Kind) (position : ℕ) (t : Transaction) (ts : List Transaction) → inner_fault K k ≡ None → IsQuiet K → kind_shows K k position ≡ t ∷ ts → ShowsOne k K position t ts
unfolding is_inside waiting
shows-one Commit K position t ts n q h =
    let e : committed K position ≡ t = cc in
    record { alone = (let k : ts ≡ [] = cc in k); position_is = ap (λ (x : Transaction). x.position) (sym e); between = record { outside = refl; none_waits = q (inside_then (is_inside K) n) } }
shows-one (Statement s) K position t ts n q h = lone-one s K position t ts (is_inside K) refl h
shows-one Begin K position t ts n q h = shows-none Begin K position t ts h
shows-one Rollback K position t ts n q h = shows-none Rollback K position t ts h
shows-one Format K position t ts n q h = shows-none Format K position t ts h
shows-one (NextGtid g) K position t ts n q h = shows-none (NextGtid g) K position t ts h
shows-one (Map m) K position t ts n q h = shows-none (Map m) K position t ts h
shows-one (Rows r) K position t ts n q h = shows-none (Rows r) K position t ts h
shows-one RealRotate K position t ts n q h = shows-none RealRotate K position t ts h
shows-one Ignored K position t ts n q h = shows-none Ignored K position t ts h
shows-one Unshown K position t ts n q h = shows-none Unshown K position t ts h
shows-one Unknown K position t ts n q h = shows-none Unknown K position t ts h
shows-one BadBody K position t ts n q h = shows-none BadBody K position t ts h

-- ---- events

pub inner-none : (f : List ℕ → ℕ) (past : List Event) (e : Event) → fault_of f past e ≡ None → inner_fault (kinds past) (kind_of e (in_force past)) ≡ None
unfolding fault_of
inner-none f past e h = (passes (outer_fault f e (in_force past)) (inner_fault (kinds past) (kind_of e (in_force past))) h).1

quiet-one : (f : List ℕ → ℕ) (past : List Event) (e : Event) → fault_of f past e ≡ None → IsQuiet (kinds past) → IsQuiet (kinds (e ∷ past))
unfolding kinds
quiet-one f past e h q = quiet-longer (kind_of e (in_force past)) (kinds past) (inner-none f past e h) q

pub quiet-onto : (f : List ℕ → ℕ) (past l : List Event) → AreGood (fault_of f) past l → IsQuiet (kinds past) → IsQuiet (kinds (onto past l))
quiet-onto f past [] g q = q
quiet-onto f past (e ∷ l) g q = quiet-onto f (e ∷ past) l g.1 (quiet-one f past e g.0 q)

-- ---- the description that is sent first

-- each event of a past is good, given the events before it
abbrev pub AreGoodBack : Judge → List Event → Type 0
AreGoodBack judge [] = Unit {0}
AreGoodBack judge (e ∷ past) = (judge past e ≡ None) × AreGoodBack judge past

pub good-back : (judge : Judge) (past l : List Event) → AreGoodBack judge past → AreGood judge past l → AreGoodBack judge (onto past l)
good-back judge past [] b g = b
good-back judge past (e ∷ l) b g = good-back judge (e ∷ past) l (g.0, b) g.1

-- a format description doesn't depend on the one before it
described : (d : Description) (h : Header) (body : List ℕ) (n : ℕ) → n ≡ 15 → kind_of_type d h body n ≡ description_kind body
described d h body n is = rw is refl

abbrev format_or : Bool → Kind
format_or b = if b then Format else BadBody

abbrev described_by : Event → Parts
described_by e = own_parts (header_of e) (content e)

desc-parts : (e : Event) (f : ChecksumSettings) → is_description e ≡ true → parts f e ≡ described_by e
unfolding parts
desc-parts e f h = rw (parts, h) refl

desc-kind : (e : Event) (d : Description) → is_description e ≡ true → kind_of e d ≡ format_or (is_description_body (described_by e).body)
unfolding kind_by
desc-kind e d h = ap (kind_by d) (desc-parts e d.footer h) ∙ described d (header_of e) (described_by e).body (type_of e) (eqb-true (type_of e) 15 h)

desc-outer : (f : List ℕ → ℕ) (e : Event) (d c : Description) → is_description e ≡ true → outer_fault f e d ≡ outer_fault f e c
unfolding frame_fault algorithm_fault checksum_fault parts
desc-outer f e d c h = rw (settings_for, parts, h) refl

inner_format : (b : Bool) (K L : List Kind) → inner_fault K (format_or b) ≡ None → (inner_fault L (format_or b) ≡ None) × (format_or b ≡ Format)
inner_format true K L h = (refl, refl)
inner_format false K L h = absurd cc

-- a format description that is good after some events is good as the first event, and is the same
desc-prefix : (f : List ℕ → ℕ) (e : Event) (past : List Event) → is_description e ≡ true → fault_of f past e ≡ None → (fault_of f [] e ≡ None) × (kind_of e (in_force []) ≡ Format)
unfolding fault_of
desc-prefix f e past h n =
    let t = passes (outer_fault f e (in_force past)) (inner_fault (kinds past) (kind_of e (in_force past))) n in
    let i = inner_format (is_description_body (described_by e).body) (kinds past) (kinds []) (ap (inner_fault (kinds past)) (sym (desc-kind e (in_force past) h)) ∙ t.1) in
    let o : outer_fault f e (in_force []) ≡ None = desc-outer f e (in_force []) (in_force past) h ∙ t.0 in
    let k : kind_of e (in_force []) ≡ format_or (is_description_body (described_by e).body) = desc-kind e (in_force []) h in
    (ap (λ (x : Option Verdict). or_else x (inner_fault (kinds []) (kind_of e (in_force [])))) o ∙ ap (inner_fault (kinds [])) k ∙ i.0, k ∙ i.1)

-- what leads an answer in place of the events before
pub record Leads (f : List ℕ → ℕ) (past led : List Event) : Type 0 where
  pub good : AreGood (fault_of f) [] led
  pub shows : shown_after (rules f) [] led ≡ []
  pub force : in_force (onto [] led) ≡ in_force past
  pub between : IsBetween (kinds (onto [] led))

format-shows : (k : Kind) (K : List Kind) (position : ℕ) → k ≡ Format → kind_shows K k position ++ [] ≡ []
format-shows k K position h = rw h refl

format-between : (k : Kind) → k ≡ Format → IsBetween (k ∷ [])
unfolding is_inside waiting
format-between k h = record { outside = rw h refl; none_waits = rw h refl }

desc-alone : (f : List ℕ → ℕ) (e : Event) (past : List Event) → is_description e ≡ true → fault_of f past e ≡ None → Leads f (e ∷ past) (e ∷ [])
unfolding shown_after shown_by kinds
desc-alone f e past h n =
    let t = desc-prefix f e past h n in
    record {
      good = (t.0, tt);
      shows = format-shows (kind_of e (in_force [])) [] (log_pos_of e) t.1;
      force = in_force-cons e [] ∙ rw h refl ∙ sym (in_force-cons e past);
      between = format-between (kind_of e (in_force [])) t.1;
    }

either-desc : (f : List ℕ → ℕ) (e : Event) (past : List Event) (b : Bool) (led : Option Event) → is_description e ≡ b → fault_of f past e ≡ None → Leads f past (option_to_list led)
    → Leads f (e ∷ past) (option_to_list (elim (when b e) [ Some y ↦ Some y | None ↦ led ]))
either-desc f e past true led h n l = desc-alone f e past h n
either-desc f e past false led h n l = record { good = l.good; shows = l.shows; force = l.force ∙ sym (in_force-cons e past ∙ rw h refl); between = l.between }

pub leads : (f : List ℕ → ℕ) (past : List Event) → AreGoodBack (fault_of f) past → Leads f past (option_to_list (newest_description past))
unfolding shown_after kinds is_inside waiting
leads f [] g = record { good = tt; shows = refl; force = refl; between = record { outside = refl; none_waits = refl } }
leads f (e ∷ past) g = either-desc f e past (is_description e) (newest_description past) refl g.0 (leads f past g.1)

either-each : (P : Event → Type 0) (e : Event) (b : Bool) (led : Option Event) → P e → Each P (option_to_list led) → Each P (option_to_list (elim (when b e) [ Some y ↦ Some y | None ↦ led ]))
either-each P e true led p h = (p, tt)
either-each P e false led p h = h

pub led-each : (P : Event → Type 0) (past : List Event) → Each P past → Each P (option_to_list (newest_description past))
led-each P [] h = tt
led-each P (e ∷ past) h = either-each P e (is_description e) (newest_description past) h.0 (led-each P past h.1)

-- ---- the last event that shows something

pub record IsLast (r : Rules) (past l : List Event) : Type 0 where
  pub first : List Event
  pub event : Event
  pub later : List Event
  pub split : l ≡ first ++ event ∷ later
  pub shown : Transaction
  pub more : List Transaction
  pub shows : r.shows (onto past first) event ≡ shown ∷ more
  pub nothing : shown_after r (event ∷ onto past first) later ≡ []

last-here : (r : Rules) (past : List Event) (e : Event) (l : List Event) (ts : List Transaction) → r.shows past e ≡ ts → shown_after r (e ∷ past) l ≡ [] → (ts ++ shown_after r (e ∷ past) l ≡ []) ⊎ IsLast r past (e ∷ l)
last-here r past e l [] h n = inl n
last-here r past e l (t ∷ ts) h n = inr (record { first = []; event = e; later = l; split = refl; shown = t; more = ts; shows = h; nothing = n })

last-either : (r : Rules) (past : List Event) (e : Event) (l : List Event) → (shown_after r (e ∷ past) l ≡ []) ⊎ IsLast r (e ∷ past) l → (r.shows past e ++ shown_after r (e ∷ past) l ≡ []) ⊎ IsLast r past (e ∷ l)
last-either r past e l (inl n) = last-here r past e l (r.shows past e) refl n
last-either r past e l (inr h) = inr (record { first = e ∷ h.first; event = h.event; later = h.later; split = ap (λ (x : List Event). e ∷ x) h.split; shown = h.shown; more = h.more; shows = h.shows; nothing = h.nothing })

pub last-shown : (r : Rules) (past l : List Event) → (shown_after r past l ≡ []) ⊎ IsLast r past l
unfolding shown_after
last-shown r past [] = inl refl
last-shown r past (e ∷ l) = last-either r past e l (last-shown r (e ∷ past) l)

-- ---- what is sent up to damage has the same faults

kept-good : (judge : Judge) (past : List Event) (e : Event) (l x : List Event) (o p : Option Verdict) → judge past e ≡ o → (o ≡ None → p ≡ None) → up_to_fault judge (e ∷ past) x ≡ up_to_fault judge (e ∷ past) l
    → up_to_fault judge past (elim p [ None ↦ e ∷ x | Some v ↦ [] ]) ≡ (elim o [ None ↦ e ∷ up_to_fault judge (e ∷ past) l | Some v ↦ [] ])
unfolding up_to_fault
kept-good judge past e l x None None h m k = rw (up_to_fault, h) (ap (λ (y : List Event). e ∷ y) k)
kept-good judge past e l x (Some v) None h m k = rw (up_to_fault, h) refl
kept-good judge past e l x None (Some w) h m k = absurd (no w (m refl))
  where
    no : (w : Verdict) → Some w ≡ None → ⊥
    no w q = cc
kept-good judge past e l x (Some v) (Some w) h m k = refl

pub good-of-sent : (r : Rules) (past l : List Event) → IsMild r → up_to_fault r.fault past (up_to_fault r.damage past l) ≡ up_to_fault r.fault past l
unfolding up_to_fault
good-of-sent r past [] mild = refl
good-of-sent r past (e ∷ l) mild = kept-good r.fault past e l (up_to_fault r.damage (e ∷ past) l) (r.fault past e) (r.damage past e) refl (mild past e) (good-of-sent r (e ∷ past) l mild)
