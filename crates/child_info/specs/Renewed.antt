-- An entry of a child list counted anew.
use Rattle.std.specs.Prelude.{◌≡◌, List, ℕ, get_or}
use Rattle.plain.specs.Outcome.{Outcome, Outcome.value, mapped}
use Rattle.pool.specs.Slot.{region_of, entries, no_kid, kid_put}
use Rattle.nodes.specs.Node.{counts_of}
use Rattle.nodes.specs.Calls.{counted}

-- the slot of the entry at i
abbrev pub slot_at : List ℕ → ℕ → ℕ → ℕ
slot_at m p i = (get_or (entries (region_of m p)) i no_kid).slot

-- the memory with the entry at i counted anew
abbrev pub renewed : List ℕ → ℕ → ℕ → List ℕ
renewed m p i = kid_put m p i (record { slot = slot_at m p i; info = counts_of m (slot_at m p i) })

-- refused as the counting is
unfoldable pub renewing : List ℕ → ℕ → ℕ → Outcome (List ℕ)
renewing m p i = mapped (λ t. kid_put m p i (record { slot = slot_at m p i; info = t })) (counted m (slot_at m p i))

abbrev pub Renews : List ℕ → ℕ → ℕ → Type 0
Renews m p i = renewing m p i ≡ value (renewed m p i)
