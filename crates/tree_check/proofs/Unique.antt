-- The check has one answer: two that meet the contract are the same.
use Rattle.std.specs.Prelude.{Option, Some, None}
use mathlib.Core.Path.{◌≡◌, refl, sym, ap, ◌∙◌}
use mathlib.Core.Bool.{Bool}
use mathlib.Core.List.{List}
use Prim.Native.Nat.{ℕ}
use Rattle.text_info.specs.declared.TextSum.{TextSum}
use Rattle.tree_check.specs.declared.Met.{Met}
use Rattle.tree_check.specs.Met.{NodeMet}

pub met-one : (m seen later after : List ℕ) (least h s : ℕ) (r q : Option Met) → NodeMet m seen later least h s r → NodeMet m seen after least h s q → r ≡ q
met-one m seen later after least h s (Some a) (Some b) f g =
    ap (λ (x : TextSum). Some (record { sum = x; lf = a.lf; cr = a.cr })) (f.told.counts ∙ sym g.told.counts)
    ∙ ap (λ (x : Bool). Some (record { sum = b.sum; lf = x; cr = a.cr })) (f.told.first ∙ sym g.told.first)
    ∙ ap (λ (x : Bool). Some (record { sum = b.sum; lf = b.lf; cr = x })) (f.told.last ∙ sym g.told.last)
met-one m seen later after least h s (Some a) None f g = absurd (g f.good f.fresh)
met-one m seen later after least h s None (Some b) f g = absurd (f g.good g.fresh)
met-one m seen later after least h s None None f g = refl
