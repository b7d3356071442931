-- Is the field at the front whole, and what became of it?
use mathlib.Core.Path.{◌≡◌, refl, sym, ap, subst, ◌∙◌}
use mathlib.Core.Bool.{Bool, true, false, cond}
use mathlib.Core.List.{List}
use Prim.Native.Nat.{ℕ, ◌-◌, ◌≤◌}
use native.Mathlib.Omega.{arith}
use lib.ListN.{length, take, drop}
use Rattle.plain_journal.specs.Fields.{asked}
use Rattle.framing.specs.Field.{field_bytes, is_whole, tag_of, body_of}
use Rattle.framing.proofs.Field.{three-bytes, whole_le, short-lt, body_is}
use Rattle.journal_fields.specs.declared.Front.{Front}
use Rattle.journal_fields.specs.declared.Front.TheVariants.{Short, Whole}
use Rattle.journal_fields.specs.declared.Done.{Done}
use Rattle.journal_fields.specs.Applied.{Applied, Starved, Takes}

-- how many bytes it takes, or 0
module _ (s : List ℕ) (e : ℕ) (is : e ≡ cond (is_whole s) (field_bytes s) 0) where
  pub none-whole : e ≡ 0 → field_bytes s ≤ 65538 → Starved s
  none-whole z h = go (is_whole s) refl
    where
      go : (t : Bool) → is_whole s ≡ t → Starved s
      go false w = (w, omega (arith, short-lt s w))
      go true w = absurd (omega (arith, three-bytes s, is ∙ ap (λ (t : Bool). cond t (field_bytes s) 0) w))

  pub one-whole : (e ≡ 0 → ⊥) → (is_whole s ≡ true) × (e ≡ field_bytes s) × (e ≤ length s) × (3 ≤ e)
  one-whole ne = go (is_whole s) refl
    where
      go : (t : Bool) → is_whole s ≡ t → (is_whole s ≡ true) × (e ≡ field_bytes s) × (e ≤ length s) × (3 ≤ e)
      go false w = absurd (ne (is ∙ ap (λ (t : Bool). cond t (field_bytes s) 0) w))
      go true w =
          let z : e ≡ field_bytes s = is ∙ ap (λ (t : Bool). cond t (field_bytes s) 0) w in
          (w, z, omega (arith, whole_le s w), omega (arith, three-bytes s))

-- what became of it, asked by its bytes behind the first three
pub as-asked : (s : List ℕ) (e : ℕ) → e ≡ field_bytes s → (m m' : List ℕ) (x d : Done) → x ≡ d → Applied (asked (tag_of s) (take (e - 3) (drop 3 s))) m x m' → Applied (asked (tag_of s) (body_of s)) m d m'
as-asked s e is m m' x d same a =
    subst (λ (l : List ℕ). Applied (asked (tag_of s) l) m d m') (ap (λ (n : ℕ). take (n - 3) (drop 3 s)) is ∙ sym (body_is s))
    (subst (λ (y : Done). Applied (asked (tag_of s) (take (e - 3) (drop 3 s))) m y m') same a)

-- ── the answer opened ──

module _ (m m' s : List ℕ) (r : Front) (t : Takes m m' s r) where
  pub took-none : r ≡ Short → Starved s × (m' ≡ m)
  took-none e = subst (λ (x : Front). Takes m m' s x) e t

  pub took_it : (used : ℕ) (d e : Done) → r ≡ Whole used d → d ≡ e → (is_whole s ≡ true) × (used ≡ field_bytes s) × Applied (asked (tag_of s) (body_of s)) m e m'
  took_it used d e p q = subst (λ (x : Done). Takes m m' s (Whole used x)) q (subst (λ (x : Front). Takes m m' s x) p t)
