-- What the list in slot p comes to when its child at i became something: the answer, and every byte afterwards. Where the tree is broken a step
-- may be refused behind one that was done; in a sound tree none is.
use Rattle.std.specs.Prelude.{List, ℕ, ◌-◌}
use Rattle.plain.specs.Outcome.{Outcome, Outcome.value}
use Rattle.text_info.specs.declared.TextInfo.{TextInfo}
use Rattle.edit_steps.specs.Made.{Made, Made.same, Made.split, Made.small, Made.apart}
use Rattle.edit_steps.specs.Acts.{Act, settled, reading, onward}
use Rattle.list_step.specs.Steps.{one_put, two_put}
use Rattle.mend_step.specs.Mended.{mended}

-- the list with a small child in it, whose counts are known then: the child is joined with the one before it, the first with the one behind it
abbrev pub joined_small : List ℕ → ℕ → ℕ → Made → Act Made
joined_small m p i (same all) = settled m (mended m p (i - 1) all)
joined_small m p i (small all) = settled m (mended m p (i - 1) all)
joined_small m p i (split a v b) = (value (split a v b), m)
joined_small m p i apart = (value apart, m)

unfoldable pub small_put : List ℕ → ℕ → ℕ → TextInfo → Act Made
unfolding one_put mended
small_put m p i info = onward (settled m (one_put m p i info)) (λ made l. joined_small l p i made)

-- what became of the child, put into its list
unfoldable pub risen : List ℕ → ℕ → ℕ → Made → Act Made
unfolding one_put two_put small_put
risen m p i (same info) = settled m (one_put m p i info)
risen m p i (split info right other) = settled m (two_put m p i info right other)
risen m p i (small info) = small_put m p i info
risen m p i apart = (value apart, m)

-- the same of an edit that may have been refused
abbrev pub risen_by : List ℕ → ℕ → ℕ → Outcome Made → Act Made
risen_by m p i o = reading m o (risen m p i)
