-- What `head_of` says of a slot: whether it is one of the n slots, and free.
use Rattle.std.specs.Prelude.{Ok, Err}
use mathlib.Core.Path.{◌≡◌, refl, sym, ap, ◌∙◌}
use mathlib.Core.Bool.{false, ◌||◌, true≢false}
use mathlib.Core.List.{List, [], ◌∷◌}
use mathlib.Core.Logic.{inl, inr}
use Prim.Native.Nat.{ℕ, ◌<◌}
use native.Mathlib.Omega.{arith}
use lib.ListN.{length}
use Rattle.plain_note.specs.Note.{need}
use Rattle.answer.specs.Answers.{refusal_number, Answer}
use Rattle.answer.specs.declared.Refusal.{Refusal}
use Rattle.pool.specs.declared.Head.{Head}
use Rattle.pool.specs.declared.Head.TheVariants as Head·case
use Rattle.pool.specs.Slot.{kind_of, len_of, next_of}
use Rattle.pool.specs.Calls.{outside, Held.free, held, held_by, wrong_head, head_of}
use Rattle.pool.proofs.Opened.{head_opened}
use Rattle.nodes.proofs.Heads.{not-outside, leaf-says, list-says, head-leaf, head-list, one-refused}

module _ (m : List ℕ) (s n : ℕ) (room : length m ≡ need n) (r : Answer Head) (promise : held r ≡ head_of m s) where
  pub free-is : (next : ℕ) → r ≡ Ok (Head·case.Free next) → (s < n) × (kind_of m s ≡ 0) × (next ≡ next_of m s)
  free-is next e =
      let o = head_opened r m s (free next) promise (ap held e) in
      (omega (arith, o.0), o.1.0, sym o.1.1)

  pub refused-not : (q : Refusal) → r ≡ Err q → s < n → kind_of m s ≡ 0 → ⊥
  unfolding head_of
  refused-not q e h k =
      let o = one-refused 2 (outside m s || wrong_head (kind_of m s) (len_of m s)) (held_by (kind_of m s) (len_of m s) (next_of m s)) (refusal_number q) (sym (ap held e) ∙ promise) in
      let z : (outside m s || wrong_head (kind_of m s) (len_of m s)) ≡ false = rw (not-outside m s (omega arith), k) in
      true≢false (sym o.0 ∙ z)

  -- a head that is none of a free slot
  pub free-not : (a : Head) → r ≡ Ok a → ((i : ℕ) → a ≡ Head·case.Free i → ⊥) → s < n → kind_of m s ≡ 0 → ⊥
  free-not (Head·case.Free i) e f h k = f i refl
  free-not (Head·case.Leaf i) e f h k = let g = (leaf-says m s (head-leaf m s r promise i e).0).1 in omega arith
  free-not (Head·case.List i) e f h k = let g = (list-says m s (head-list m s r promise i e).0).1 in omega arith
