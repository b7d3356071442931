-- A sound tree uses no slot that does not lie wholly in the memory.
use mathlib.Core.Path.{◌≡◌, ◌∙◌}
use mathlib.Core.Bool.{Bool, true}
use mathlib.Core.List.{List, [], ◌∷◌}
use Prim.Native.Nat.{ℕ, zero, suc, ◌+◌, ◌<◌}
use native.Mathlib.Omega.{arith}
use lib.ListN.{length}
use borrow.Author.Tests.{ne_eqb}
use Rattle.plain.proofs.Logic.{and_left}
use Rattle.pool.specs.Slot.{slot_start}
use Rattle.nodes.specs.Node.{children_of}
use Rattle.nodes.proofs.Heads.{leaf-says, list-says}
use Rattle.tree.specs.Tree.{sum_over, every, hit, uses, told_right, least_at, sound}
use Rattle.tree.specs.Kids.{fine}
use Rattle.tree.proofs.Lists.{sum-none, sum-cons, every-head, every-tail}
use Rattle.tree.proofs.Sound.{leaf-uses, list-uses, leaf-sound, list-sound}

-- two slots that are not one
pub hit-not : (s x : ℕ) → (s ≡ x → ⊥) → hit s x ≡ 0
unfolding hit
hit-not s x f = rw (ne_eqb s x f)

sum-zero : {A : Type 0} (f : A → ℕ) (p : A → Bool) → ((k : A) → p k ≡ true → f k ≡ 0) → (ks : List A) → every p ks ≡ true → sum_over f ks ≡ 0
sum-zero f p v [] e = sum-none f
sum-zero f p v (k ∷ ks) e = sum-cons f k ks ∙ (let a = v k (every-head p k ks e) in let b = sum-zero f p v ks (every-tail p k ks e) in omega arith)

-- THEOREM: no slot of a sound tree lies outside
pub uses-within : (m : List ℕ) (least h s x : ℕ) → sound m least h s ≡ true → length m < slot_start x + 640 → uses m h s x ≡ 0
uses-within m least zero s x e l =
    leaf-uses m s x ∙ hit-not s x (λ q. let a = (leaf-says m s (leaf-sound m least s e).leaf).0 in omega arith)
uses-within m least (suc h) s x e l =
    let r = list-sound m least h s e in
    let a = hit-not s x (λ q. let a = (list-says m s r.list).0 in omega arith) in
    let b = sum-zero (λ k. uses m h k.slot x) (fine m h) (λ k f. uses-within m (least_at h) h k.slot x (and_left (sound m (least_at h) h k.slot) (told_right m h k) f) l) (children_of m s) r.each in
    omega (arith, list-uses m s h x)
