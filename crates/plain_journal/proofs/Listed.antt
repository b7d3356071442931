-- The laws of fields behind others: the note, the numbers, the lines and what is listed.
use mathlib.Core.Path.{◌≡◌, refl, sym, ap, ◌∙◌}
use mathlib.Core.List.{List, [], ◌∷◌, ◌++◌, append_assoc, append-nil}
use Prim.Native.Nat.{ℕ, suc, ◌+◌}
use native.Mathlib.Omega.{arith}
use lib.ListN.{length}
use Rattle.plain.specs.Outcome.{Outcome}
use Rattle.plain_note.specs.Note.{Note}
use Rattle.plain_calls.specs.Calls.{Call}
use Rattle.plain_journal.specs.Replay.{played, note_then, code_of, codes, after}
use Rattle.plain_journal.specs.Listing.{field_line, field_lines, ending, listed}

pub listed-none : (N : Note) (k : ℕ) → listed N k [] ≡ ending N
unfolding listed codes after field_lines
listed-none N k = refl

-- ── fields behind others ──

-- THEOREM: the note after fields, and then others; their numbers; their lines; what is listed of them.
pub after_then : (N : Note) (fs gs : List (Outcome Call)) → after N (fs ++ gs) ≡ after (after N fs) gs
unfolding after
after_then N [] gs = refl
after_then N (f ∷ fs) gs = after_then (note_then N f) fs gs

codes-then : (N : Note) (fs gs : List (Outcome Call)) → codes N (fs ++ gs) ≡ codes N fs ++ codes (after N fs) gs
unfolding codes after
codes-then N [] gs = refl
codes-then N (f ∷ fs) gs = ap (λ (l : List ℕ). code_of (played N f) ∷ l) (codes-then (note_then N f) fs gs)

codes-long : (N : Note) (fs : List (Outcome Call)) → length (codes N fs) ≡ length fs
unfolding codes
codes-long N [] = refl
codes-long N (f ∷ fs) = ap suc (codes-long (note_then N f) fs)

lines_then : (k : ℕ) (cs ds : List ℕ) → field_lines k (cs ++ ds) ≡ field_lines k cs ++ field_lines (k + length cs) ds
unfolding field_lines
lines_then k [] ds = ap (λ (n : ℕ). field_lines n ds) (omega arith)
lines_then k (c ∷ cs) ds =
    let z : k + 1 + length cs ≡ k + suc (length cs) = omega arith in
    ap (λ (l : List ℕ). field_line k c ++ l) (lines_then (k + 1) cs ds ∙ ap (λ (n : ℕ). field_lines (k + 1) cs ++ field_lines n ds) z)
    ∙ sym (append_assoc (field_line k c) (field_lines (k + 1) cs) (field_lines (k + suc (length cs)) ds))

module _ (N : Note) (k : ℕ) (fs : List (Outcome Call)) where
  both : (gs : List (Outcome Call)) → field_lines k (codes N (fs ++ gs)) ≡ field_lines k (codes N fs) ++ field_lines (k + length fs) (codes (after N fs) gs)
  both gs =
      ap (field_lines k) (codes-then N fs gs) ∙ lines_then k (codes N fs) (codes (after N fs) gs)
      ∙ ap (λ (n : ℕ). field_lines k (codes N fs) ++ field_lines (k + n) (codes (after N fs) gs)) (codes-long N fs)

  -- one more
  pub lines-one : (f : Outcome Call) → field_lines k (codes N (fs ++ (f ∷ []))) ≡ field_lines k (codes N fs) ++ field_line (k + length fs) (code_of (played (after N fs) f))
  unfolding codes field_lines
  lines-one f = both (f ∷ []) ∙ ap (λ (l : List ℕ). field_lines k (codes N fs) ++ l) (append-nil (field_line (k + length fs) (code_of (played (after N fs) f))))

  pub listed_then : (gs : List (Outcome Call)) → listed N k (fs ++ gs) ≡ field_lines k (codes N fs) ++ listed (after N fs) (k + length fs) gs
  unfolding listed
  listed_then gs =
      cc (both gs, after_then N fs gs)
      ∙ append_assoc (field_lines k (codes N fs)) (field_lines (k + length fs) (codes (after N fs) gs)) (ending (after (after N fs) gs))
