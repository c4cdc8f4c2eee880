-- What all lines of a transaction have, and the line of a whole transaction.
use Rattle.std.proofs.Common.{◌≡◌, ◌<◌, ◌-◌, ℕ, true, false, List, [], ◌∷◌, ◌++◌, length, drop, map, Option, Some, None, Result, Ok, Err, refl, sym, ap, ◌∙◌, append_assoc, arith}
use Rattle.std.specs.Prelude.{⊤, OnOk, codes, is_some, unwrap_or}
use Rattle.std.specs.Borrow.{Bor}
use Rattle.std.specs.Slice.{IsGetRangeResult}
use Rattle.std.proofs.lemmas.List.{length-drop, take_all}
use Rattle.events_frames.specs.Headers.{Header}
use Rattle.feed_checks.specs.Kinds.{Gtid, Anonymous, Numbered, Tagged}
use Rattle.feed_text.specs.Buffers.{text_in}
use Rattle.feed_transactions.specs.Changes.{Committed}
use Rattle.feed_transactions.specs.KeptGtids.{has_uuid, numbered_in}
use Rattle.changes_origins.specs.GtidJson.{IsGtidJson}
use Rattle.std.proofs.lemmas.Bool.{true≢false}
use Rattle.changes_lines.specs.ChangeLines.{ChangeJson, objects, transaction_line, with_ends}
use Rattle.changes_lines.specs.Origins.{header_members, origin_members, AppendsOrigin}
use Rattle.changes_lines.specs.RecordedLines.{HaveRows}
use Rattle.changes_lines.specs.WrittenLines.{Begins}
use Rattle.changes_lines.specs.declared.lines.Lines.{Lines}

-- a fact whatever the result of a call
pub on_any : {A E : Type 0} (r : Result ⊤ E) → A → OnOk r A
on_any (Ok x) a = a
on_any (Err e) a = tt

-- no GTID, and an anonymous one, are null
pub no_uuid_json : (g : Option Gtid) → has_uuid g ≡ false → IsGtidJson g (codes "null")
no_uuid_json None h = refl
no_uuid_json (Some Anonymous) h = refl
no_uuid_json (Some (Numbered uuid number)) h = absurd (true≢false h)
no_uuid_json (Some (Tagged body)) h = absurd (true≢false h)

-- a GTID with a UUID and a number
pub numbered_is : (g : Option Gtid) (uuid : List ℕ) (number : ℕ) → Some (uuid, number) ≡ numbered_in g → g ≡ Some (Numbered uuid number)
numbered_is None uuid number h = absurd (true≢false (ap is_some h))
numbered_is (Some Anonymous) uuid number h = absurd (true≢false (ap is_some h))
numbered_is (Some (Tagged body)) uuid number h = absurd (true≢false (ap is_some h))
numbered_is (Some (Numbered u n)) uuid number h = ap (λ (o : Option (List ℕ × ℕ)). (let p : List ℕ × ℕ = unwrap_or o (uuid, number) in Some (Numbered p.0 p.1))) (sym h)

-- the members of a changed row or a statement
pub begun_alone : (s : Lines) (file more : List ℕ) (t : Committed) (g : Option Gtid) (position : ℕ) (before mid : List ℕ) → s.by_transaction ≡ false → before ≡ [] → g ≡ t.gtid → position ≡ t.commit.log_pos → AppendsOrigin g file position before mid → text_in s.origin ≡ mid ++ more → Begins s file t more
begun_alone s file more t g position before mid plain none same at a added = record {
  gtid = a.gtid;
  is = rw (← same) a.is;
  begun = rw plain (added ∙ ap (λ (l : List ℕ). l ++ more) (a.appended ∙ ap (λ (l : List ℕ). l ++ origin_members a.gtid file position) none ∙ ap (origin_members a.gtid file) at));
}

-- those of a transaction
pub begun_with_header : (s : Lines) (file more : List ℕ) (t : Committed) (h : Header) (g : Option Gtid) (position : ℕ) (before first mid : List ℕ) → s.by_transaction ≡ true → before ≡ [] → first ≡ before ++ header_members h → h ≡ t.commit → g ≡ t.gtid → position ≡ t.commit.log_pos
    → AppendsOrigin g file position first mid → text_in s.origin ≡ mid ++ more → Begins s file t more
begun_with_header s file more t h g position before first mid whole none begun commit same at a added = record {
  gtid = a.gtid;
  is = rw (← same) a.is;
  begun = rw whole (
      added
      ∙ ap (λ (l : List ℕ). l ++ more) (a.appended ∙ ap (λ (l : List ℕ). l ++ origin_members a.gtid file position) (begun ∙ ap (λ (l : List ℕ). l ++ header_members h) none ∙ ap header_members commit) ∙ ap (λ (n : ℕ). header_members t.commit ++ origin_members a.gtid file n) at)
      ∙ append_assoc (header_members t.commit) (origin_members a.gtid file t.commit.log_pos) more
      );
}

-- the bytes after the first, if there is one
pub rest_of : (xs : List ℕ) (o : Option (Bor (List ℕ))) (none got : Bor (List ℕ)) → IsGetRangeResult xs 1 (length xs) o → got ≡ unwrap_or o none → none.now ≡ [] → got.now ≡ drop 1 xs
rest_of xs (Some x) none got h is empty =
    ap (λ (r : Bor (List ℕ)). r.now) is ∙ h.0.2 ∙ take_all (length xs - 1) (drop 1 xs) (let long = length-drop 1 xs in omega (arith, long))
rest_of [] None none got h is empty = ap (λ (r : Bor (List ℕ)). r.now) is ∙ empty
rest_of (x ∷ xs) None none got h is empty = absurd (let e : false ≡ true = h.1 (omega arith, omega arith) in cc)

-- the line of a transaction that has changes
pub line_is : (members : List ℕ) (xs : List ChangeJson) → HaveRows xs → 0 < length (map (λ x. length x.rows) xs)
    → transaction_line members (objects [] xs) ≡ (123 ∷ []) ++ (drop 1 members ++ (codes ",\"changes\":[" ++ (with_ends (codes "},") (codes "}") (objects [] xs) ++ codes "]}\n")))
line_is members [] rows some = absurd (omega (arith, some))
line_is members (x ∷ xs) rows some = of x.rows rows.0
  where
    of : (l : List (List ℕ)) → 0 < length l → (let os = map (λ row. x.front ++ ([] ++ (x.back ++ row))) l ++ objects [] xs in transaction_line members os ≡ (123 ∷ []) ++ (drop 1 members ++ (codes ",\"changes\":[" ++ (with_ends (codes "},") (codes "}") os ++ codes "]}\n"))))
    of [] less = absurd (omega (arith, less))
    of (row ∷ l) less = refl
