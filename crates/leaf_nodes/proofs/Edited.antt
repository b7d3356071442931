-- A leaf edited as text: from what the check of the call answered to the memory that `Calls` asks for.
use Rattle.answer.specs.Answers.{Answer, outcome}
use Rattle.std.specs.Prelude.{Ok, Err}
use mathlib.Core.Path.{◌≡◌, sym, subst, ◌∙◌}
use mathlib.Core.Bool.{true}
use mathlib.Core.List.{List, [], ◌∷◌}
use Prim.Native.Nat.{ℕ}
use native.Mathlib.Omega.{arith}
use lib.ListN.{length}
use lib.Seq.{length-take-le}
use Rattle.plain.specs.Outcome.{ruled}
use Rattle.answer.specs.declared.Refusal.{Refusal}
use Rattle.leaf_bytes.specs.Leaf.{leaf_of}
use Rattle.leaf_bytes.specs.Raw.{replacing}
use Rattle.node_text.specs.Texts.{off_chars, no_text}
use Rattle.node_text.proofs.Checks.{edit-refused, edit-replaces}
use Rattle.pool.specs.Slot.{len_of, region_of}
use Rattle.pool.proofs.Slots.{region-length}
use Rattle.nodes.specs.Node.{is_leaf}
use Rattle.nodes.specs.Calls.{leaf_edited, LeafWrote}
use Rattle.nodes.proofs.Heads.{leaf-says}
use Rattle.nodes.proofs.Copied.{wrote_as, wrote-not, edit-is}

module _ (m : List ℕ) (s n i e : ℕ) (piece : List ℕ) (leaf : is_leaf m s ≡ true) (len : len_of m s ≡ n) (r : Answer ℕ)
    (promise : outcome r ≡ ruled (off_chars (leaf_of (region_of m s) n) i e ∷ no_text (leaf_of (region_of m s) n) piece ∷ []) (length (leaf_of (region_of m s) n))) where
  size : n ≡ length (leaf_of (region_of m s) n)
  size = let f = leaf-says m s leaf in sym (length-take-le n (region_of m s) (omega (arith, region-length m s f.0, f.2)))

  pub edit-not : (q : Refusal) → r ≡ Err q → LeafWrote (leaf_edited m s i e piece) m s r m
  edit-not q z =
      subst (λ (x : Answer ℕ). LeafWrote (leaf_edited m s i e piece) m s x m) (sym z)
      (wrote-not _ m s q (edit-is m s i e piece n leaf len ∙ edit-refused (region_of m s) n i e piece n size r promise q z))

  pub edit-done : (k : ℕ) → r ≡ Ok k → (a : Answer ℕ) (after : List ℕ) → LeafWrote (replacing (region_of m s) n i e piece) m s a after
      → LeafWrote (leaf_edited m s i e piece) m s a after
  edit-done k z a after w =
      wrote_as _ m s (replacing (region_of m s) n i e piece) a after
      (edit-is m s i e piece n leaf len ∙ sym (edit-replaces (region_of m s) n i e piece n size r promise k z)) w
