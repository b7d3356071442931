-- `str_ends::last_line` meets its contract. The loop's invariant: no break, and no LF, stands behind the index.
use Rattle.str_utils.proofs.Laws.{NoBreak}
use Rattle.str_ends.proofs.last_line.Given as goal

abbrev pub invariant-loop-i : goal.invariant-loop-i
invariant-loop-i l = NoBreak l.text l.i
