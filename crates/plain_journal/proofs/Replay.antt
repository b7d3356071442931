-- A field leaves n as it was.
use mathlib.Core.Path.{◌≡◌, refl, ap}
use Rattle.plain.specs.Outcome.{Outcome, Outcome.value, Outcome.refused}
use Rattle.plain_note.specs.Note.{Note}
use Rattle.plain_calls.specs.Calls.{Call, Call.insert, Call.remove, Call.set_mark, Call.drop_mark, Call.look, Said, called, left}
use Rattle.plain_calls.proofs.Accepted.{Came, came}
use Rattle.plain_journal.specs.Replay.{note_then}

came-n : (N : Note) (c : Call) (r : Said × Note) → Came N c r → r.1.n ≡ N.n
came-n N (insert p piece) r w = ap (λ (x : Said × Note). x.1.n) w.1
came-n N (remove s e) r w = ap (λ (x : Said × Note). x.1.n) w.1
came-n N (set_mark p) r w = ap (λ (x : Said × Note). x.1.n) w.1
came-n N (drop_mark k) r w = ap (λ (x : Said × Note). x.1.n) w.1
came-n N (look l) r w = ap (λ (M : Note). M.n) w.1

-- THEOREM: of any field.
pub then-n : (N : Note) (f : Outcome Call) → (note_then N f).n ≡ N.n
then-n N (refused q) = refl
then-n N (value c) = go (called N c) refl
  where
    go : (o : Outcome (Said × Note)) → called N c ≡ o → (left N o).n ≡ N.n
    go (value r) e = came-n N c r (came N c r e)
    go (refused q) e = refl
