use Rattle.std.proofs.Common.{◌≡◌, ◌≤◌, ◌^◌, ℕ, zero, suc, pos, unsigned_abs, [], ◌∷◌, get_or, to_z, of_z, arith}
use Rattle.std.specs.Int.{w32}
use Rattle.rows_values.proofs.digits.power_of_ten.Goals as goal

power_at : (n k : ℕ) → k ≤ 9
    → n ≡ unsigned_abs (to_z w32 (of_z w32 (get_or (pos 1 ∷ pos 10 ∷ pos 100 ∷ pos 1000 ∷ pos 10000 ∷ pos 100000 ∷ pos 1000000 ∷ pos 10000000 ∷ pos 100000000 ∷ pos 1000000000 ∷ []) k (pos 0))))
    → n ≡ 10 ^ k
power_at n zero h e = e
power_at n (suc zero) h e = e
power_at n (suc (suc zero)) h e = e
power_at n (suc (suc (suc zero))) h e = e
power_at n (suc (suc (suc (suc zero)))) h e = e
power_at n (suc (suc (suc (suc (suc zero))))) h e = e
power_at n (suc (suc (suc (suc (suc (suc zero)))))) h e = e
power_at n (suc (suc (suc (suc (suc (suc (suc zero))))))) h e = e
power_at n (suc (suc (suc (suc (suc (suc (suc (suc zero)))))))) h e = e
power_at n (suc (suc (suc (suc (suc (suc (suc (suc (suc zero))))))))) h e = e
power_at n (suc (suc (suc (suc (suc (suc (suc (suc (suc (suc k)))))))))) h e = absurd (omega (arith, h))

pub returns : goal.returns
returns c = power_at c.unsigned_abs.result c.args.digits c.requires c.unsigned_abs.ensures.value
