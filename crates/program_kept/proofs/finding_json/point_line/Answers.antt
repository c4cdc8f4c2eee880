use Rattle.std.proofs.Common.{◌≡◌, ℕ, List, [], ◌∷◌, ◌++◌, ap, ◌∙◌, append_assoc}
use Rattle.std.specs.Fmt.{decimal}
use Rattle.program_kept.proofs.finding_json.point_line.Goals as goal

-- the length and the position, the name, and the line feed
parts : (line two one name : List ℕ) (len position : ℕ) → line ≡ two ++ 10 ∷ [] → two ≡ one ++ name → one ≡ decimal len ++ 32 ∷ (decimal position ++ 32 ∷ [])
    → line ≡ decimal len ++ 32 ∷ (decimal position ++ 32 ∷ (name ++ 10 ∷ []))
parts line two one name len position a b d = a ∙ ap (λ y. y ++ 10 ∷ []) (b ∙ ap (λ y. y ++ name) d) ∙ simp append_assoc

pub returns : goal.returns
returns c = rw c.in-Some.is (parts c.push.new.self.items c.extend_from_slice.new.self.items c.into_bytes-line.result.items c.in-Some.point.file.items c.args.kept.now.len c.in-Some.point.position c.in_ok-push.ensures.items
    (c.in_ok-extend_from_slice.ensures.items ∙ ap (λ y. c.into_bytes-line.result.items ++ y) c.deref.ensures.value) (ap (λ v. v.items) c.into_bytes-line.ensures.value ∙ c.in_ok-format-2.ensures.ok))
