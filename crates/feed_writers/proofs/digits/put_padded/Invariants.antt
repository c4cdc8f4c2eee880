use Rattle.std.proofs.Common.{◌≡◌, ◌+◌, ◌-◌, ◌≤◌, ◌++◌, take, replicate}
use Rattle.feed_writers.proofs.digits.put_padded.Given as goal

-- the zeros written so far
abbrev pub invariant-loop-digit : goal.invariant-loop-digit
invariant-loop-digit l = record {
  low : l.count ≤ l.digit;
  end : l.end + l.count ≡ l.at + l.digit;
  text : take l.end l.text ≡ take l.at l.fn.text ++ replicate (l.digit - l.count) 48;
}
