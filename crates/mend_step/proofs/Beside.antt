-- Two edits of one child each, one after another and beside each other: together they make two children. No call needs it; the laws do.
use mathlib.Core.Path.{◌≡◌, sym, ap, ◌∙◌}
use mathlib.Core.Bool.{false, ◌&&◌}
use mathlib.Core.List.{List, [], ◌∷◌, ◌++◌}
use Prim.Native.Nat.{ℕ, ◌+◌, ◌≤◌}
use native.Mathlib.Omega.{arith}
use lib.ListN.{length}
use Rattle.plain.specs.Count.{cr_last, lf_first}
use Rattle.pool.specs.declared.Kid.{Kid}
use Rattle.tree.specs.Tree.{uses}
use Rattle.tree.specs.Kids.{below, fine}
use Rattle.tree.proofs.Lists.{join-append, sum-append, every_append}
use Rattle.tree.proofs.Frame.{KeptAll}
use Rattle.edit_steps.specs.Became.{bytes_all, free, Slotted, Became}
use Rattle.edit_steps.specs.Grown.{Grown}
use Rattle.edit_steps.proofs.Rules.{became-as, same_length, beside}
use Rattle.mend_step.proofs.Pairs.{text-one, seam-two}

-- another name for what was used, and for the bytes
pub grown-as : (m l : List ℕ) (n d : ℕ) (u w : ℕ → ℕ) (h : ℕ) (outs : List Kid) (t v : List ℕ) → Grown m l n d u h outs t → ((x : ℕ) → u x ≡ w x) → t ≡ v → Grown m l n d w h outs v
grown-as m l n d u w h outs t v g e q = record { became = became-as m l n d u h outs t g.became w v e q; each = g.each; seams = g.seams }

module _ (m first last : List ℕ) (n g : ℕ) (u v : ℕ → ℕ) (a b : Kid) (s t : List ℕ) (w : Slotted m n) (left : Grown m first n 0 u g (a ∷ []) s) (right : Grown first last n 0 v g (b ∷ []) t)
    (apart : (z : ℕ) → u z + v z + free m n z ≤ 1) (seam : (cr_last s && lf_first t) ≡ false) where
  mid : Slotted first n
  mid = left.became.slotted

  abbrev long : length last ≡ length first
  long = same_length first last n 0 v g (b ∷ []) t right.became mid

  stays : KeptAll first last long g (a ∷ [])
  stays = beside first last n 0 v g (b ∷ []) t right.became mid g (a ∷ []) (λ z. omega (arith, apart z, left.became.conserve z))

  left-text : bytes_all last g (a ∷ []) ≡ s
  left-text = stays.bytes ∙ left.became.reads

  became-both : Became m last n 0 (λ z. u z + v z) g (a ∷ b ∷ []) (s ++ t)
  became-both =
      record {
        slotted = right.became.slotted;
        conserve = λ z. omega (
          arith,
          sum-append (λ (k : Kid). uses last g k.slot z) (a ∷ []) (b ∷ []),
          stays.used z,
          left.became.conserve z,
          right.became.conserve z,
        );
        reads =
            join-append (below last g) (a ∷ []) (b ∷ [])
            ∙ ap (λ (x : List ℕ). x ++ bytes_all last g (b ∷ [])) left-text
            ∙ ap (λ (x : List ℕ). s ++ x) right.became.reads;
        only = λ z e. right.became.only z (omega (arith, left.became.conserve z)) ∙ left.became.only z (omega arith);
        front = right.became.front ∙ left.became.front;
        rest = right.became.rest ∙ left.became.rest;
        spent = omega (arith, left.became.spent, right.became.spent);
      }

  -- THEOREM: two children, with the bytes of both
  pub both-grown : Grown m last n 0 (λ z. u z + v z) g (a ∷ b ∷ []) (s ++ t)
  both-grown =
      record {
        became = became-both;
        each = every_append (fine last g) (a ∷ []) (b ∷ []) (stays.fine-too ∙ left.each) right.each;
        seams =
            seam-two (below last g) a b
            (ap (λ (x : List ℕ). cr_last x && lf_first (below last g b)) (sym (text-one (below last g) a) ∙ left-text)
            ∙ ap (λ (x : List ℕ). cr_last s && lf_first x) (sym (text-one (below last g) b) ∙ right.became.reads)
            ∙ seam);
      }
