-- The numbers of verdicts, as the constants of library/cuvragyen.h have them.
use Rattle.std.specs.Prelude.{⊤, ℕ, Bool, true, false, Result, Ok, Err}
use Rattle.feed_checks.specs.declared.verdict.Verdict.{Verdict}
use Rattle.feed_checks.specs.declared.verdict.Verdict.TheVariants as v
use Rattle.library_log.specs.declared.options.OptionsFault.{OptionsFault}
use Rattle.library_log.specs.declared.options.OptionsFault.TheVariants as faults
use Rattle.library_log.specs.declared.read_log.Next.{Next}
use Rattle.library_log.specs.declared.read_log.Next.TheVariants.{Transaction, WantsMore}

abbrev pub verdict_number : Verdict → ℕ
verdict_number v.End = 100
verdict_number v.Closed = 101
verdict_number v.Mark = 102
verdict_number v.TooLarge = 103
verdict_number v.OutOfNumber = 104
verdict_number v.ServerError = 105
verdict_number v.NotAnEvent = 106
verdict_number v.Frame = 107
verdict_number v.Algorithm = 108
verdict_number v.Checksum = 109
verdict_number v.Size = 110
verdict_number v.Body = 111
verdict_number v.NoTableMap = 112
verdict_number v.Row = 113
verdict_number v.Outside = 114
verdict_number v.Inside = 115
verdict_number v.Unshown = 116
verdict_number v.UnknownKind = 117
verdict_number v.Memory = 118
verdict_number v.Read = 119
verdict_number v.Write = 120

-- what a call returns, by what the library returns: 0 more bytes are wanted, 1 there is a transaction, or a verdict
abbrev pub next_number : Result Next Verdict → ℕ
next_number (Ok WantsMore) = 0
next_number (Ok Transaction) = 1
next_number (Err v) = verdict_number v

-- what a call returns that does something: 0 it is done, or a verdict
abbrev pub done_number : Result ⊤ Verdict → ℕ
done_number (Ok x) = 0
done_number (Err v) = verdict_number v

-- what a call returns that shows a transaction: 0 there is none, 1 there is one, or a verdict
abbrev pub shown_number : Result Bool Verdict → ℕ
shown_number (Ok false) = 0
shown_number (Ok true) = 1
shown_number (Err v) = verdict_number v

-- what a call returns whose options can't be taken
abbrev pub fault_number : OptionsFault → ℕ
fault_number faults.Name = 3
fault_number faults.Value = 4
fault_number faults.Memory = 118
