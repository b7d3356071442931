-- A leaf's text read into an output of 512 bytes: never refused, and it lies at the front.
use Rattle.answer.specs.Answers.{Answer}
use Rattle.std.specs.Prelude.{Ok, Err}
use mathlib.Core.Path.{◌≡◌, sym, ap, ◌∙◌}
use mathlib.Core.Bool.{true, not}
use mathlib.Core.List.{List, ◌++◌}
use Prim.Native.Nat.{ℕ, ◌+◌, ◌≤◌}
use native.Mathlib.Omega.{arith}
use lib.ListN.{length, take, drop, length-append}
use lib.Seq.{length-take-le, take_at}
use Rattle.plain.specs.Outcome.{Outcome.value, past, mapped}
use Rattle.answer.specs.declared.Refusal.{Refusal}
use Rattle.leaf_bytes.specs.Leaf.{Leaf, written}
use Rattle.leaf_bytes.proofs.Opened.{value-never, value-is}
use Rattle.pool.specs.Slot.{slot_start, len_of}
use Rattle.node_children.proofs.Rules.{two-passed, past-no}
use Rattle.nodes.specs.Node.{is_leaf, text_of}
use Rattle.nodes.specs.Calls.{text_read}
use Rattle.nodes.proofs.Heads.{leaf-says}
use Rattle.nodes.proofs.Accepted.{text-length}
use Rattle.child_info.specs.Leaves.{LeafText}

pub text-size : (m : List ℕ) (s : ℕ) → is_leaf m s ≡ true → (length (text_of m s) ≡ len_of m s) × (length (text_of m s) ≤ 512) × (slot_start s + 640 ≤ length m)
text-size m s e = let f = leaf-says m s e in (text-length m s e, omega (arith, text-length m s e, f.2), f.0)

module _ (m : List ℕ) (s : ℕ) (out : List ℕ) (t : LeafText m s) (room : length out ≡ 512) (q : Answer ℕ) (after : List ℕ) (promise : Leaf (text_read m s (length out)) out q after) where
  read_is : text_read m s (length out) ≡ value (text_of m s)
  unfolding text_read
  read_is =
      two-passed 2 9 (not (is_leaf m s)) (past (length (text_of m s)) (length out)) (text_of m s) (ap not t.leaf)
      (past-no (length (text_of m s)) (length out) (omega (arith, (text-size m s t.leaf).1)))

  pub read-never : (z : Refusal) → q ≡ Err z → ⊥
  read-never z e = value-never q _ (promise.answered ∙ ap (mapped (λ (x : List ℕ). length x)) read_is) z e

  pub read_length : (k : ℕ) → q ≡ Ok k → k ≡ length (text_of m s)
  read_length k e = value-is q _ (promise.answered ∙ ap (mapped (λ (x : List ℕ). length x)) read_is) k e

  read_whole : after ≡ text_of m s ++ drop (length (text_of m s)) out
  read_whole = promise.region ∙ ap (written out) read_is

  pub read-text : (k : ℕ) → q ≡ Ok k → take k after ≡ text_of m s
  read-text k e = ap (take k) read_whole ∙ take_at (text_of m s) (drop (length (text_of m s)) out) k (sym (read_length k e))

  pub read-room : (k : ℕ) → q ≡ Ok k → k ≤ length after
  read-room k e = omega (arith, read_length k e, ap length read_whole, length-append (text_of m s) (drop (length (text_of m s)) out))

  pub read-size : (k : ℕ) → q ≡ Ok k → k ≡ length (take k after)
  read-size k e = sym (length-take-le k after (read-room k e))
