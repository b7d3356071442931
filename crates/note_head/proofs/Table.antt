-- The laws of the head's table: its fields lie one behind another before the marks; what is written in one is read back; and another reads as before. A new
-- field needs a line of the table and one of what its bytes tell.
use mathlib.Core.Path.{◌≡◌, refl, sym, ap, ◌∙◌}
use mathlib.Core.Bool.{Bool, true, false, ◌&&◌, ◌||◌}
use mathlib.Core.List.{List, [], ◌∷◌}
use Prim.Native.Nat.{ℕ, ◌+◌, ◌≤◌}
use native.Mathlib.Omega.{arith}
use lib.Dec.{leb}
use lib.ListN.{length, drop, get_or}
use lib.Seq.{get_or-take, get_or-drop}
use borrow.Author.Tests.{leb-true}
use Rattle.octets.specs.Over.{overlaid}
use Rattle.octets.specs.Big.{four_at}
use Rattle.octets.proofs.Over.{part-before, part-behind, part-is-laid}
use Rattle.octets.proofs.Numbers.{four-part}
use Rattle.pool.specs.Slot.{kid_at}
use Rattle.pool.proofs.Kids.{kid-part}
use Rattle.note_head.specs.Head.{Field, slots_field, edit_field, root_field, height_field, free_field, fields, bytes_in, mark_start, n_of, edit_of, root_of, height_of, free_of}

-- ── the table ──

-- fields one behind another, from a byte on and up to another
abbrev pub rising : ℕ → List Field → ℕ → Bool
rising a [] e = leb a e
rising a (f ∷ fs) e = leb a f.0 && rising (f.0 + f.1) fs e

-- THEOREM: no two fields share a byte, and all lie before the marks.
pub table-right : rising 0 fields (mark_start 0) ≡ true
table-right = refl

-- one ends before the other begins
abbrev pub apart : Field → Field → Bool
apart f g = leb (f.0 + f.1) g.0 || leb (g.0 + g.1) f.0

-- ── a field written: its own bytes, and those of another ──

module _ (g : Field) (x m : List ℕ) (long : length x ≡ g.1) (there : g.0 + g.1 ≤ length m) where
  pub bytes-set : bytes_in g (overlaid g.0 x m) ≡ x
  bytes-set = part-is-laid g.0 g.1 x m (omega arith) long

  pub bytes-kept : (f : Field) → apart f g ≡ true → bytes_in f (overlaid g.0 x m) ≡ bytes_in f m
  bytes-kept f e = go (leb (f.0 + f.1) g.0) refl e
    where
      go : (b : Bool) → leb (f.0 + f.1) g.0 ≡ b → (b || leb (g.0 + g.1) f.0) ≡ true → bytes_in f (overlaid g.0 x m) ≡ bytes_in f m
      go true h e = part-before g.0 x m (omega arith) f.0 f.1 (leb-true (f.0 + f.1) g.0 h)
      go false h e = part-behind g.0 x m (omega arith) f.0 f.1 (let l = leb-true (g.0 + g.1) f.0 e in omega arith)

-- ── what is told by the bytes of a field alone ──

pub record FieldTells {A : Type 0} (f : Field) (read by : List ℕ → A) : Type 0 where
  pub is : (m : List ℕ) → read m ≡ by (bytes_in f m)

module _ {A : Type 0} {f : Field} {read by : List ℕ → A} (t : FieldTells f read by) where
  -- THEOREM: what was written is read.
  pub read_back : (x m : List ℕ) → length x ≡ f.1 → f.0 + f.1 ≤ length m → read (overlaid f.0 x m) ≡ by x
  read_back x m l h = t.is (overlaid f.0 x m) ∙ ap by (bytes-set f x m l h)

  -- THEOREM: what was written elsewhere is not.
  pub read_same : (g : Field) → apart f g ≡ true → (x m : List ℕ) → length x ≡ g.1 → g.0 + g.1 ≤ length m → read (overlaid g.0 x m) ≡ read m
  read_same g e x m l h = t.is (overlaid g.0 x m) ∙ ap by (bytes-kept g x m l h f e) ∙ sym (t.is m)

-- ── field by field ──

abbrev pub number : List ℕ → ℕ
number b = four_at b 0

number-tells : (a : ℕ) (m : List ℕ) → four_at m a ≡ number (bytes_in (a, 4) m)
number-tells a m = let z : a ≡ a + 0 = omega arith in ap (four_at m) z ∙ sym (four-part m a 4 0 (omega arith))

pub n-tells : FieldTells slots_field n_of number
unfolding n_of
n-tells = record { is = number-tells slots_field.0 }

pub edit-tells : FieldTells edit_field edit_of number
unfolding edit_of
edit-tells = record { is = number-tells edit_field.0 }

pub root-tells : FieldTells root_field root_of (λ b. kid_at b 0)
unfolding root_of
root-tells = record { is = λ m. sym (kid-part m root_field.0 root_field.1 0 (omega arith)) }

pub height-tells : FieldTells height_field height_of (λ b. get_or b 0 0)
unfolding height_of
height-tells = record { is = λ m. sym (get_or-take 1 (drop height_field.0 m) 0 0 (omega arith) ∙ get_or-drop height_field.0 m 0 0) }

pub free-tells : FieldTells free_field free_of number
unfolding free_of
free-tells = record { is = number-tells free_field.0 }
