-- Years that begin in March, so that a leap day is the last of its year.
use Rattle.std.specs.Prelude.{ℕ, ◌+◌, ◌-◌, ◌*◌, ◌/◌}

-- the days from the first of March of the year 0 to that of the year y
abbrev pub march_days : ℕ → ℕ
march_days y = 365 * y + (y / 4 + y / 400 - y / 100)
