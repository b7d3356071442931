-- The sum of the children's counts where one child gives way to another: the counts of the one taken off, and those of the other added.
use mathlib.Core.Path.{◌≡◌, refl, sym, ap, ◌∙◌}
use mathlib.Core.List.{List, [], ◌∷◌}
use Prim.Native.Nat.{ℕ, zero, suc, ◌+◌, ◌%◌, ◌^◌, ◌≤◌, ◌<◌}
use native.Mathlib.Omega.{arith}
use native.Mathlib.Nat.{not-suc-le-zero}
use lib.ListN.{length, get_or, set}
use Rattle.text_info.specs.declared.TextInfo.{TextInfo}
use Rattle.text_info.specs.declared.TextSum.{TextSum}
use Rattle.text_info.specs.Info.{zeros, Summed}
use Rattle.pool.specs.declared.Kid.{Kid}
use Rattle.pool.specs.Slot.{no_kid}
use Rattle.child_search.specs.Sought.{plus_info, sum_from, Within}
use Rattle.nodes.specs.Node.{total_of}
use Rattle.tree.proofs.Counts.{sum_is}

-- one of the four counts
module _ (f : TextSum → ℕ) (g : TextInfo → ℕ) (adds : (s : TextSum) (t : TextInfo) → f (plus_info s t) ≡ f s + g t) where
  shifted : (ks : List Kid) (s u : TextSum) → f (sum_from s ks) + f u ≡ f (sum_from u ks) + f s
  unfolding sum_from
  shifted [] s u = omega arith
  shifted (k ∷ ks) s u = omega (arith, shifted ks (plus_info s k.info) (plus_info u k.info), adds s k.info, adds u k.info)

  exchanged : (ks : List Kid) (i : ℕ) (k : Kid) (s : TextSum) → i < length ks → f (sum_from s (set ks i k)) + g (get_or ks i no_kid).info ≡ f (sum_from s ks) + g k.info
  unfolding sum_from
  exchanged [] i k s h = absurd (not-suc-le-zero h)
  exchanged (x ∷ ks) zero k s h = omega (arith, shifted ks (plus_info s k.info) (plus_info s x.info), adds s k.info, adds s x.info)
  exchanged (x ∷ ks) (suc i) k s h = exchanged ks i k (plus_info s x.info) (omega arith)

-- sums of 64 bits: what returned to 0 comes back
one-count : (r old new all q z : ℕ) → all ≡ (r + old) % 2 ^ 64 → q ≡ (r + new) % 2 ^ 64 → z + old ≡ all + new → z < 2 ^ 64 → q ≡ z
one-count r old new all q z a b c d = omega arith

pub exchanged-sum : (ks : List Kid) (i : ℕ) (k : Kid) (s : TextSum) (old : TextInfo) (r q : TextSum) → i < length ks → s ≡ total_of ks → old ≡ (get_or ks i no_kid).info → Within s 16
    → k.info.bytes ≤ 4294967295 → k.info.chars ≤ 4294967295 → k.info.utf16_surrogates ≤ 4294967295 → k.info.line_breaks ≤ 4294967295
    → Summed r old s → Summed r k.info q → q ≡ total_of (set ks i k)
exchanged-sum ks i k s old r q h e o w b c u l x y =
    let z = total_of (set ks i k) in
    let eb : z.bytes + old.bytes ≡ s.bytes + k.info.bytes =
    ap (λ (t : TextInfo). z.bytes + t.bytes) o ∙ exchanged (λ t. t.bytes) (λ t. t.bytes) (λ a t. refl) ks i k zeros h ∙ ap (λ (t : TextSum). t.bytes + k.info.bytes) (sym e) in
    let ec : z.chars + old.chars ≡ s.chars + k.info.chars =
    ap (λ (t : TextInfo). z.chars + t.chars) o ∙ exchanged (λ t. t.chars) (λ t. t.chars) (λ a t. refl) ks i k zeros h ∙ ap (λ (t : TextSum). t.chars + k.info.chars) (sym e) in
    let eu : z.utf16_surrogates + old.utf16_surrogates ≡ s.utf16_surrogates + k.info.utf16_surrogates =
    ap (λ (t : TextInfo). z.utf16_surrogates + t.utf16_surrogates) o ∙ exchanged (λ t. t.utf16_surrogates) (λ t. t.utf16_surrogates) (λ a t. refl) ks i k zeros h ∙ ap (λ (t : TextSum). t.utf16_surrogates + k.info.utf16_surrogates) (sym e) in
    let el : z.line_breaks + old.line_breaks ≡ s.line_breaks + k.info.line_breaks =
    ap (λ (t : TextInfo). z.line_breaks + t.line_breaks) o ∙ exchanged (λ t. t.line_breaks) (λ t. t.line_breaks) (λ a t. refl) ks i k zeros h ∙ ap (λ (t : TextSum). t.line_breaks + k.info.line_breaks) (sym e) in
    sum_is q z
    (one-count r.bytes old.bytes k.info.bytes s.bytes q.bytes z.bytes x.0 y.0 eb (omega (arith, w.b)))
    (one-count r.chars old.chars k.info.chars s.chars q.chars z.chars x.1 y.1 ec (omega (arith, w.c)))
    (one-count r.utf16_surrogates old.utf16_surrogates k.info.utf16_surrogates s.utf16_surrogates q.utf16_surrogates z.utf16_surrogates x.2 y.2 eu (omega (arith, w.u)))
    (one-count r.line_breaks old.line_breaks k.info.line_breaks s.line_breaks q.line_breaks z.line_breaks x.3 y.3 el (omega (arith, w.l)))
