-- The runs of a reader, joined, are the note from its place on, and there are no more of them than chars; a refused reader has none.
use mathlib.Core.Path.{◌≡◌, refl, sym, ap, ◌∙◌}
use mathlib.Core.Bool.{true}
use mathlib.Core.List.{List, []}
use Prim.Native.Nat.{ℕ, ◌≤◌}
use native.Mathlib.Omega.{arith}
use lib.ListN.{length, drop, length-drop}
use borrow.Author.Tests.{le-ltb}
use Rattle.plain.specs.Chars.{encode}
use Rattle.plain.specs.Outcome.{Outcome, Outcome.value, Outcome.refused, past, part, mapped}
use Rattle.plain.proofs.Logic.{cut}
use Rattle.plain.proofs.Outcome.{one-passed}
use Rattle.plain_note.specs.Note.{read_from}
use Rattle.note_head.specs.Head.{own_of}
use Rattle.memory.specs.Formed.{well_formed, note_of, of_note}
use Rattle.memory.proofs.Formed.{note-called, note-accepted}
use Rattle.leaf_parts.specs.Parts.{from_char}
use Rattle.leaf_parts.specs.Front.{FrontChars}
use Rattle.leaf_parts.proofs.Notes.{told}
use Rattle.runs.specs.Runs.{run_of}
use Rattle.runs.proofs.Says.{read-says}
use Rattle.runs.proofs.Fronts.{run-front, run-empty}
use Rattle.reader.specs.Handed.{pool_at, run_at, Runs, joined}
use Rattle.reader.proofs.Rules.{run-here, run-over}
use Rattle.reader.proofs.Parts.{no-runs}
use Rattle.reader.proofs.InTurn.{AllParts, turns-one, all-parts}

module _ (m : List ℕ) (ok : well_formed m ≡ true) where
  abbrev text : List ℕ
  text = (note_of m).text

  read_is : (p : ℕ) → p ≤ length text → of_note m (λ N. read_from N p) ≡ value (encode (drop p text))
  unfolding read_from
  read_is p h = note-called m (λ N. read_from N p) ok ∙ one-passed 3 (past p (length text)) (encode (drop p text)) (le-ltb (length text) p h)

  -- THEOREM: a reader's run is what `runs::run` hands out.
  pub run-same : (p : ℕ) → p ≤ length (note_of m).text → run_at m p ≡ run_of m p
  unfolding run_of
  run-same p h =
      cut p (length text)
      (λ l. run-here m p (length text) (sym (told m ok).chars-told) l ∙ sym (ap (λ (o : Outcome (List ℕ)). part (mapped (λ t. from_char (own_of m) p) o)) (read_is p h)))
      (λ l. let z : length text ≡ p = omega arith in run-over m p (length text) (sym (told m ok).chars-told) l ∙ sym (ap (run_of m) (sym z) ∙ run-empty m ok))

  front_at : (p : ℕ) → p ≤ length text → FrontChars text p (run_at m p)
  front_at p h = rw (run-same p h) (run-front m ok p h)

  -- THEOREM: of a well-formed memory, the runs from a place of the note on, none of them empty, are the rest of its text, and behind them
  -- comes an empty one.
  pub all_runs : (p : ℕ) → p ≤ length (note_of m).text → AllParts (run_at m) (note_of m).text p
  all_runs p h = all-parts (run_at m) text front_at p h

-- THEOREM: there is one way only to read.
pub runs-one : (m : List ℕ) (p : ℕ) (rs ss : List (List ℕ)) → Runs m p rs → Runs m p ss → rs ≡ ss
runs-one m p rs ss a b = turns-one (run_at m) p rs ss a b

-- ── a reader as it was made ──

-- what a reader made at p hands out: what the call comes to on the note; a refused one nothing
pub record Reads (m : List ℕ) (p : ℕ) : Type 0 where
  pub runs : List (List ℕ)
  pub handed : Runs (pool_at m p) p runs
  pub whole : joined runs ≡ part (of_note m (λ N. read_from N p))
  pub few : length runs ≤ length (drop p (note_of m).text)

module _ (m : List ℕ) (p : ℕ) where
  pool-is : (o : Outcome (List ℕ)) → of_note m (λ N. read_from N p) ≡ o → pool_at m p ≡ part (mapped (λ t. m) o)
  unfolding pool_at
  pool-is o e = ap (λ (x : Outcome (List ℕ)). part (mapped (λ t. m) x)) e

  -- THEOREM: on any memory and any place.
  pub reader-reads : Reads m p
  reader-reads = go (of_note m (λ N. read_from N p)) refl
    where
      go : (o : Outcome (List ℕ)) → of_note m (λ N. read_from N p) ≡ o → Reads m p
      go (value a) e =
          let s = note-accepted m (λ N. read_from N p) a e in
          let h = (read-says (note_of m) p a s.1).0 in
          let all = all_runs m s.0 p h in
          record {
            runs = all.parts;
            handed = rw (pool-is (value a) e) all.handed;
            whole = all.whole ∙ sym (ap part (read_is m s.0 p h));
            few = omega (arith, all.few, length-drop p (note_of m).text);
          }
      go (refused n) e = record { runs = []; handed = rw (pool-is (refused n) e) (sym (no-runs p)); whole = sym (ap part e); few = omega arith }
