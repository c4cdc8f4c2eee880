-- The first and the last of bytes that are read in parts.
use Rattle.std.proofs.Common.{◌≡◌, ◌<◌, ◌≤◌, ◌+◌, ◌-◌, ℕ, Bool, true, false, List, [], ◌++◌, length, take, drop, refl, sym, ap, ◌∙◌, arith}
use Rattle.std.specs.Prelude.{min, nat_lt, ◌==◌}
use Rattle.std.proofs.Math.Seq.{take-append-add, drop-append-add}
use Rattle.std.proofs.lemmas.Bool.Decides.{nat_tests}
use Rattle.std.proofs.lemmas.List.{append-nil, take_min, take-append-le, drop-append-le, length-take-le, length-drop, length-append, drop-take, length-take, take_all}
use Rattle.changes_commands.specs.LogReaders.{first_of, fresh, last_bytes, last_of, left_back, KeepsRead}
use Rattle.changes_commands.specs.declared.log_reader.LogReader.{LogReader}

-- the first bytes, with those that follow
pub first_more : (first b : List ℕ) (len n : ℕ) → len ≤ length first → len ≤ 1024 → n ≡ min (length b) (1024 - len) → take len first ++ take n b ≡ take 1024 (take len first ++ b)
first_more first b len n has within is =
    let size : length (take len first) ≡ len = length-take-le len first has in
    let all : 1024 ≡ length (take len first) + (1024 - len) = omega arith in
    let count : n ≡ min (1024 - len) (length b) = omega arith in
    ap (λ (k : ℕ). take len first ++ take k b) count ∙ ap (λ (l : List ℕ). take len first ++ l) (take_min (1024 - len) b)
    ∙ sym (take-append-add (take len first) b (1024 - len)) ∙ ap (λ (k : ℕ). take k (take len first ++ b)) (sym all)

is_below : (a b : ℕ) → nat_lt a b ≡ true → a < b
is_below a b h = grind (arith, nat_tests)

isnt_below : (a b : ℕ) → nat_lt a b ≡ false → b ≤ a
isnt_below a b h = grind (arith, nat_tests)

-- the last bytes, with those that follow: the kept ones are moved to the front, and the others wait behind them
pub last_more : (last b : List ℕ) (len n kept m : ℕ) → len ≤ length last → len ≤ 1024 → n ≡ length b - 1024 → kept ≡ min len (1024 - length (drop n b)) → m ≡ len - kept → take kept (drop m last ++ take m last) ++ drop n b ≡ last_bytes (take len last ++ b)
last_more last b len n kept m has within n_is kept_is m_is = of (nat_lt (length b) 1024) refl
  where
    size : length (take len last) ≡ len
    size = length-take-le len last has

    total : length (take len last ++ b) ≡ len + length b
    total = length-append (take len last) b ∙ ap (λ (k : ℕ). k + length b) size

    rest : length (drop n b) ≡ length b - n
    rest = length-drop n b

    moved : take kept (drop m last ++ take m last) ≡ take kept (drop m last)
    moved = take-append-le kept (drop m last) (take m last) (let d = length-drop m last in omega arith)

    kept_and_more : m + kept ≡ len
    kept_and_more = omega arith

    taken : take kept (drop m last) ≡ drop m (take len last)
    taken = sym (drop-take m kept last) ∙ ap (λ (k : ℕ). drop m (take k last)) kept_and_more

    of : (t : Bool) → nat_lt (length b) 1024 ≡ t → take kept (drop m last ++ take m last) ++ drop n b ≡ last_bytes (take len last ++ b)
    of true e =
        let few = is_below (length b) 1024 e in
        let none : n ≡ 0 = omega (arith, rest, size, total) in
        let over : length (take len last ++ b) - 1024 ≡ m = omega (arith, rest, size, total) in
        ap (λ (l : List ℕ). l ++ drop n b) (moved ∙ taken) ∙ ap (λ (k : ℕ). drop m (take len last) ++ drop k b) none ∙ sym (drop-append-le m (take len last) b (omega (arith, rest, size, total))) ∙ ap (λ (k : ℕ). drop k (take len last ++ b)) (sym over)
    of false e =
        let many = isnt_below (length b) 1024 e in
        let none : kept ≡ 0 = omega (arith, rest, size, total) in
        let over : length (take len last ++ b) - 1024 ≡ length (take len last) + n = omega (arith, rest, size, total) in
        ap (λ (k : ℕ). take k (drop m last ++ take m last) ++ drop n b) none ∙ sym (drop-append-add (take len last) b n) ∙ ap (λ (k : ℕ). drop k (take len last ++ b)) (sym over)

-- of bytes that are read, the ones that were put back are kept already
first_again : (first more : List ℕ) → more ≡ [] → length first ≤ 1024 → first ≡ take 1024 (first ++ more)
first_again first more none within = sym (ap (λ (l : List ℕ). take 1024 (first ++ l)) none ∙ ap (take 1024) (append-nil first) ∙ take_all 1024 first within)

last_again : (last more : List ℕ) → more ≡ [] → length last ≤ 1024 → last ≡ last_bytes (last ++ more)
last_again last more none within = sym (ap (λ (l : List ℕ). last_bytes (last ++ l)) none ∙ ap last_bytes (append-nil last) ∙ ap (λ (k : ℕ). drop k last) (let e : length last - 1024 ≡ 0 = omega arith in e))

pub keeps_back : {R : Type 0} (old new : LogReader R) (bytes : List ℕ) → new.kept ≡ old.kept → (length (left_back old) == 0) ≡ false → KeepsRead old new bytes
keeps_back old new bytes same some =
    let none : fresh old bytes ≡ [] = rw some refl in
    let first = length-take old.kept.first_len old.kept.first in
    let last = length-take old.kept.last_len old.kept.last in
    let first_within = old.kept.first_within in
    let last_within = old.kept.last_within in
    record {
      first = rw same (first_again (first_of old) (fresh old bytes) none (omega arith));
      last = rw same (last_again (last_of old) (fresh old bytes) none (omega arith));
    }
