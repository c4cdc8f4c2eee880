-- The members `file` and `position` of a line.
use Rattle.std.proofs.Common.{◌≡◌, ℕ, ◌+◌, List, ◌∷◌, ◌++◌, length, take, drop, refl, sym, ap, ◌∙◌, subst, append_assoc, arith, length-append, drop-drop, inl, inr}
use Rattle.std.specs.Prelude.{codes}
use Rattle.std.specs.List.{flat_map}
use Rattle.std.proofs.lemmas.Bool.{cases_lt}
use Rattle.std.proofs.lemmas.List.{take_at, drop_at, take-append-drop, length-take-le, append_cancel_left}
use Rattle.memchr.specs.Find.{OccursAt, Nowhere, NoneBefore}
use Rattle.memchr.proofs.lemmas.MatchLemmas.{OccursAt-split, OccursAt-from_part}
use Rattle.changes_writers.specs.JsonStrings.{json_byte, json_string}
use Rattle.changes_writers.proofs.StringLawLemmas.{strings_read}
use Rattle.changes_resume.proofs.PositionLemmas.{one_position}
use Rattle.changes_resume.specs.ResumePoints.{BeginsWithPosition, HasResumePoint}

-- what is searched for
abbrev pub member : List ℕ
member = codes ",\"file\":\""

-- a string, by its content
string_parts : (a s : List ℕ) → json_string a ++ s ≡ 34 ∷ (flat_map json_byte a ++ 34 ∷ s)
unfolding json_string
string_parts a s = simp append_assoc

-- contents that end at a quote are equal
content_read : (a b s t : List ℕ) → flat_map json_byte a ++ 34 ∷ s ≡ flat_map json_byte b ++ 34 ∷ t → (a ≡ b) × (s ≡ t)
content_read a b s t e = strings_read a b s t (string_parts a s ∙ ap (λ l. 34 ∷ l) e ∙ sym (string_parts b t))

module _ (line file : List ℕ) (position : ℕ) (h : HasResumePoint line file position) where
  at_member : line ≡ h.before ++ (member ++ (flat_map json_byte file ++ 34 ∷ h.after))
  at_member = h.split ∙ ap (λ l. h.before ++ (codes ",\"file\":" ++ l)) (string_parts file h.after)

  occurs : OccursAt line member (length h.before)
  occurs = OccursAt-from_part line member (length h.before)
      (omega (arith, ap length at_member, length-append h.before (member ++ (flat_map json_byte file ++ 34 ∷ h.after)), length-append member (flat_map json_byte file ++ 34 ∷ h.after)))
      (ap (λ l. take (length member) (drop (length h.before) l)) at_member ∙ ap (take (length member)) (drop_at h.before (member ++ (flat_map json_byte file ++ 34 ∷ h.after)) (length h.before) refl) ∙ take_at member (flat_map json_byte file ++ 34 ∷ h.after) (length member) refl)

  -- a search finds the member
  pub not_nowhere : ¬ (Nowhere (OccursAt line member) 0 (length line + 1))
  not_nowhere none = none (length h.before) (omega arith) (let f = occurs.fits in omega arith) occurs

  first_is : (at : ℕ) → NoneBefore (OccursAt line member) 0 (length line + 1) at → OccursAt line member at → length h.before ≡ at
  first_is at first here = elim (cases_lt at (length h.before)) [
    | inl l ↦ absurd (h.first at l here)
    | inr g ↦ elim (cases_lt (length h.before) at) [
      | inl l ↦ absurd (first.before (length h.before) (omega arith) l occurs)
      | inr k ↦ omega (arith, g, k)
    ]
  ]

  -- and the content after it
  pub content_is : (at : ℕ) (text : List ℕ) → NoneBefore (OccursAt line member) 0 (length line + 1) at → OccursAt line member at → text ≡ drop 9 (drop at line) → text ≡ flat_map json_byte file ++ 34 ∷ h.after
  content_is at text first here e =
      e ∙ ap (λ l. drop 9 (drop at l)) at_member ∙ ap (drop 9) (drop_at h.before (member ++ (flat_map json_byte file ++ 34 ∷ h.after)) at (first_is at first here))
      ∙ drop_at member (flat_map json_byte file ++ 34 ∷ h.after) 9 refl

  -- the file that was read is the file, and the position follows it
  pub position_after : (at : ℕ) (text bytes rest : List ℕ) → NoneBefore (OccursAt line member) 0 (length line + 1) at → OccursAt line member at → text ≡ drop 9 (drop at line)
      → text ≡ flat_map json_byte bytes ++ 34 ∷ rest → BeginsWithPosition rest position
  position_after at text bytes rest first here e read =
      let same = content_read bytes file rest h.after (sym read ∙ content_is at text first here e) in
      subst (λ l. BeginsWithPosition l position) (sym same.1) h.position_is

-- the members that were read
pub has_point : (line text file rest : List ℕ) (at position : ℕ) → NoneBefore (OccursAt line member) 0 (length line + 1) at → OccursAt line member at → text ≡ drop 9 (drop at line)
    → text ≡ flat_map json_byte file ++ 34 ∷ rest → BeginsWithPosition rest position → HasResumePoint line file position
has_point line text file rest at position first here e read p =
    let f = here.fits in
    let size = length-take-le at line (omega arith) in
    record {
      before = take at line;
      after = rest;
      split = sym (take-append-drop at line) ∙ ap (λ l. take at line ++ l)
          (OccursAt-split line member at here ∙ ap (λ l. member ++ l) (sym (drop-drop 9 at line) ∙ sym e ∙ read) ∙ ap (λ l. codes ",\"file\":" ++ l) (sym (string_parts file rest)));
      first = λ k l. first.before k (omega arith) (omega (arith, l, size));
      position_is = p;
    }

-- a line has one point at most
pub one_point : (line a b : List ℕ) (p q : ℕ) → HasResumePoint line a p → HasResumePoint line b q → (a ≡ b) × (p ≡ q)
one_point line a b p q h k =
    let same : length k.before ≡ length h.before = elim (cases_lt (length h.before) (length k.before)) [
      | inl l ↦ absurd (k.first (length h.before) l (occurs line a p h))
      | inr g ↦ elim (cases_lt (length k.before) (length h.before)) [
        | inl l ↦ absurd (h.first (length k.before) l (occurs line b q k))
        | inr i ↦ omega (arith, g, i)
      ]
    ] in
    let one = drop_at h.before (member ++ (flat_map json_byte a ++ 34 ∷ h.after)) (length h.before) refl in
    let two = drop_at k.before (member ++ (flat_map json_byte b ++ 34 ∷ k.after)) (length h.before) same in
    let parts : member ++ (flat_map json_byte a ++ 34 ∷ h.after) ≡ member ++ (flat_map json_byte b ++ 34 ∷ k.after) =
    sym one ∙ ap (drop (length h.before)) (sym (at_member line a p h) ∙ at_member line b q k) ∙ two in
    let read = content_read a b h.after k.after (append_cancel_left member (flat_map json_byte a ++ 34 ∷ h.after) (flat_map json_byte b ++ 34 ∷ k.after) parts) in
    (read.0, one_position k.after p q (subst (λ l. BeginsWithPosition l p) read.1 h.position_is) k.position_is)
