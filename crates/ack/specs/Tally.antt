-- The running tally of a pipeline's replies, and what one reply more makes of it. Assumes nothing.
use Rattle.std.specs.Prelude.{ℕ, ◌+◌, ◌%◌, ◌^◌, max, true, false, cond, [], ◌∷◌, ◌==◌, nat_lt, slice_set}
use Rattle.ack.specs.declared.tally.FailedNodes.{FailedNodes}
use Rattle.ack.specs.declared.tally.Replies.{Replies}

abbrev pub no_replies : Replies
no_replies = record {
  known = 0;
  failed = record { positions = false ∷ false ∷ false ∷ false ∷ false ∷ false ∷ false ∷ false ∷ []; count = 0; highest = 0 };
}

abbrev pub with_failed : FailedNodes → ℕ → FailedNodes
with_failed f position = record {
  positions = cond (nat_lt position 8) (slice_set f.positions position true) f.positions;
  count = f.count + 1;
  highest = position;
}

abbrev pub placed : Replies → ℕ → Replies
placed t status = record { known = t.known + 1; failed = cond (status == 0) t.failed (with_failed t.failed t.known) }

abbrev pub noted : Replies → ℕ → Replies
noted t reply = cond (nat_lt (reply % 2 ^ 32) 14) (placed t (reply % 2 ^ 32)) t

abbrev pub reply_count : Replies → ℕ
reply_count t = max t.known t.failed.count
