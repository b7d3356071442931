-- No second outcome of one field of a journal: what was done is settled, how far the output is put, and every byte of it; of the memory, what is settled of a field.
use mathlib.Core.Path.{◌≡◌, refl, sym, subst, ◌∙◌}
use mathlib.Core.Bool.{false≢true}
use mathlib.Core.List.{List}
use Prim.Native.Nat.{ℕ}
use native.Mathlib.Omega.{arith}
use Rattle.plain_journal.specs.Fields.{asked}
use Rattle.framing.specs.Field.{tag_of, body_of}
use Rattle.plain_journal.specs.Listing.{field_line}
use Rattle.listing_lines.proofs.Unique.{puts_one}
use Rattle.journal_fields.specs.declared.Done.{Done}
use Rattle.journal_fields.specs.declared.Done.TheVariants as Done·case
use Rattle.journal_fields.specs.Applied.{line_number}
use Rattle.journal_fields.proofs.Unique.{one-done}
use Rattle.listing_lines.specs.Puts.{Puts}
use Rattle.journal.specs.declared.fields.Field.{Field}
use Rattle.journal.specs.declared.fields.Field.TheVariants.{Short, Listed, Bad}
use Rattle.journal.specs.Turns.{OneDone, Did}

module _ (m x y s : List ℕ) (k : ℕ) (o v w : List ℕ) (put : ℕ) where
  -- two fields done: the same bytes, the same line
  both : (a b p q : ℕ) (d e : Done) → OneDone m x s k o v put a p d → OneDone m y s k o w put b q e → (a ≡ b) × (p ≡ q) × (v ≡ w) × (d ≡ e)
  both a b p q d e f g =
      let same : d ≡ e = one-done m d e x y (asked (tag_of s) (body_of s)) f.2 g.2 in
      let one = puts_one put (field_line k (line_number d)) o p q v w 50 f.3 (subst (λ (z : Done). Puts 50 put (field_line k (line_number z)) o q w) (sym same) g.3) in
      (f.1 ∙ sym g.1, one.0, one.1, same)

  -- THEOREM
  pub did-one : (r t : Field) → Did m x s k o v put r → Did m y s k o w put t → (r ≡ t) × (v ≡ w)
  did-one Short Short f g = (refl, f.2 ∙ sym g.2)
  did-one Short (Listed b q) f g = absurd (false≢true (sym f.0.0 ∙ g.1.0))
  did-one Short (Bad b q) f g = absurd (false≢true (sym f.0.0 ∙ g.0))
  did-one (Listed a p) Short f g = absurd (false≢true (sym g.0.0 ∙ f.1.0))
  did-one (Bad a p) Short f g = absurd (false≢true (sym g.0.0 ∙ f.0))
  did-one (Listed a p) (Listed b q) f g = let z = both a b p q _ _ f.1 g.1 in (cc (z.0, z.1), z.2)
  did-one (Bad a p) (Bad b q) f g = let z = both a b p q _ _ f g in (cc (z.0, z.1), z.2)
  did-one (Listed a p) (Bad b q) f g = absurd (let z : Done·case.Code f.0 ≡ Done·case.Bad = (both a b p q _ _ f.1 g).3 in let u : ◌≡◌ {A = ℕ} 0 1 = cc in omega arith)
  did-one (Bad a p) (Listed b q) f g = absurd (let z : Done·case.Bad ≡ Done·case.Code g.0 = (both a b p q _ _ f g.1).3 in let u : ◌≡◌ {A = ℕ} 0 1 = cc in omega arith)
