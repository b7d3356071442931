-- What C is told: a code, numbers written through pointers, and what is left of the regions.
use Rattle.std.specs.Prelude.{◌≡◌, Bool, true, false, List, ℕ, length}
use Rattle.plain.specs.Outcome.{Outcome, kept, mapped}
use Rattle.leaf_bytes.specs.Leaf.{written}
use Rattle.text_info.specs.Info.{Summed}
use Rattle.text_info.specs.declared.TextInfo.{TextInfo}
use Rattle.text_info.specs.declared.TextSum.{TextSum}
use Rattle.told.specs.Told.{code}

-- two leaves: their lengths, and what is left of the two regions
pub record LeavesTold (o : Outcome (List ℕ × List ℕ)) (left right : List ℕ) (x y r : ℕ) (left-after right-after : List ℕ) (x-after y-after : ℕ) : Type 0 where
  pub coded : r ≡ code (mapped (λ t. length t.0) o)
  pub left-region : left-after ≡ written left (mapped (λ t. t.0) o)
  pub right-region : right-after ≡ written right (mapped (λ t. t.1) o)
  pub left-length : x-after ≡ kept x (mapped (λ t. length t.0) o)
  pub right-length : y-after ≡ kept y (mapped (λ t. length t.1) o)

-- the counts of a text
pub record InfoTold (o : Outcome TextInfo) (b c u l r b-after c-after u-after l-after : ℕ) : Type 0 where
  pub coded : r ≡ code (mapped (λ i. i.bytes) o)
  pub bytes-are : b-after ≡ kept b (mapped (λ i. i.bytes) o)
  pub chars-are : c-after ≡ kept c (mapped (λ i. i.chars) o)
  pub surrogates-are : u-after ≡ kept u (mapped (λ i. i.utf16_surrogates) o)
  pub breaks-are : l-after ≡ kept l (mapped (λ i. i.line_breaks) o)

-- a sum after an addition; after a subtraction the addition leads back
abbrev pub SumTold : Bool → TextSum → TextInfo → TextSum → Type 0
SumTold false s i r = Summed s i r
SumTold true s i r = Summed r i s
