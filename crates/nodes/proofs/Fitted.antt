-- The entries behind a list's children are zeros, so the entries fit their 32 bits if the children do.
use mathlib.Core.List.{List, [], ◌∷◌, ◌++◌}
use Prim.Native.Nat.{ℕ, zero, suc, ◌-◌, ◌≤◌, ◌<◌}
use native.Mathlib.Omega.{arith}
use lib.ListN.{length, get_or, replicate, length-append, length-replicate}
use Rattle.pool.specs.declared.Kid.{Kid}
use Rattle.pool.specs.Slot.{no_kid, Fits}
use Rattle.node_children.specs.Kids.{list_of}
use Rattle.nodes.specs.Node.{Fitting}

no-kid-fits : (n i : ℕ) → Fits (get_or (replicate n no_kid) i no_kid)
no-kid-fits zero i = record { slot = omega arith; bytes = omega arith; chars = omega arith; surrogates = omega arith; breaks = omega arith }
no-kid-fits (suc n) zero = record { slot = omega arith; bytes = omega arith; chars = omega arith; surrogates = omega arith; breaks = omega arith }
no-kid-fits (suc n) (suc i) = no-kid-fits n i

padded-fits : (xs : List Kid) (n : ℕ) → ((i : ℕ) → i < length xs → Fits (get_or xs i no_kid)) → (i : ℕ) → Fits (get_or (xs ++ replicate n no_kid) i no_kid)
padded-fits [] n f i = no-kid-fits n i
padded-fits (k ∷ xs) n f zero = f 0 (omega arith)
padded-fits (k ∷ xs) n f (suc i) = padded-fits xs n (λ j g. f (suc j) (omega arith)) i

-- THEOREM: a list of children whose numbers have 32 bits is one whose entries all have
pub list-fits : (ks : List Kid) → length ks ≤ 16 → ((i : ℕ) → i < length ks → Fits (get_or ks i no_kid)) → Fitting (list_of ks).arr
unfolding list_of
list-fits ks n f = record {
  sixteen = omega (arith, length-append ks (replicate (16 - length ks) no_kid), length-replicate (16 - length ks) no_kid);
  each = λ i h. padded-fits ks (16 - length ks) f i;
}
