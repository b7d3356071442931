-- Well formed but for the marks, and the marks besides: what the note's part then holds, and back.
use mathlib.Core.Path.{◌≡◌, refl, sym, ap, ◌∙◌}
use mathlib.Core.Bool.{true}
use mathlib.Core.Logic.{◌⊎◌, inl, inr, ⊎_elim}
use mathlib.Core.List.{List}
use Prim.Native.Nat.{ℕ, ◌+◌, ◌≤◌, ◌<◌}
use native.Mathlib.Omega.{arith}
use lib.Dec.{eqb, leb}
use lib.ListN.{length}
use borrow.Author.Tests.{leb-true, eqb-true}
use Rattle.plain.specs.Utf8.{decode}
use Rattle.plain.proofs.Logic.{cut, and_left, and_right}
use Rattle.plain_note.specs.Note.{need, limit}
use Rattle.tree.specs.Tree.{least_root, told_right, sound}
use Rattle.note_head.specs.Head.{n_of, root_of, height_of, free_of, live_at, place_at, own_of}
use Rattle.note_head.proofs.Own.{front-live, front-place, own-n, own-length}
use Rattle.memory.specs.Formed.{frees, chained, note_bytes, in_tree, in_free, tree_right, slots_right, size_right, need_met, well_formed}
use Rattle.memory.proofs.Below.{below_at}
use Rattle.memory.proofs.Chain.{frees-past}
use Rattle.memory.proofs.Formed.{MarkRight, formed, formed-length, formed-well}
use Rattle.edit_steps.specs.Became.{free}
use Rattle.edit_steps.specs.Held.{Held}
use Rattle.edit_steps.proofs.Laws.{own_held, held-own}
use Rattle.edit_promise.specs.Edited.{shaped}

-- the marks of the note's part are those of the memory
module _ (m : List ℕ) (k : ℕ) (l : k < 256) where
  pub own-live : live_at (own_of m) k ≡ live_at m k
  unfolding own_of
  own-live = front-live m (need (n_of m)) (omega arith) k l

  pub own-place : place_at (own_of m) k ≡ place_at m k
  unfolding own_of
  own-place = front-place m (need (n_of m)) (omega arith) k l

-- a mark: free, or live at a place of a text of so many chars
abbrev pub Fine : List ℕ → ℕ → ℕ → Type 0
Fine m chars k = (live_at m k ≡ 0) ⊎ ((live_at m k ≡ 1) × (place_at m k ≤ chars))

-- memory whose part holds these bytes, within the note's size
pub record Shaped (m bytes : List ℕ) : Type 0 where
  pub held : Held (own_of m) (n_of m) bytes
  pub room : need (n_of m) ≤ length m
  pub small : length bytes ≤ limit (n_of m)

-- THEOREM: well-formed memory is shaped, and its marks are fine
pub formed-shaped : (m : List ℕ) → well_formed m ≡ true → Shaped m (note_bytes (own_of m))
formed-shaped m ok =
    let f = formed m ok in
    record { held = own_held (own_of m) (n_of m) f.own f.least f.most (formed-length m f); room = f.room; small = f.own.size }

pub formed-fine : (m : List ℕ) → well_formed m ≡ true → (k : ℕ) → k < 256 → Fine m (length (decode (note_bytes (own_of m)))) k
formed-fine m ok k l =
    ⊎_elim (λ e. inl (sym (own-live m k l) ∙ e))
    (λ p. inr (sym (own-live m k l) ∙ p.0, omega (arith, own-place m k l, p.1)))
    ((formed m ok).own.marks k l)

-- THEOREM: and back
pub shaped-formed : (m bytes : List ℕ) → Shaped m bytes → ((k : ℕ) → k < 256 → Fine m (length (decode bytes)) k) → well_formed m ≡ true
shaped-formed m bytes s marks =
    formed-well m (record {
      least = s.held.least;
      most = s.held.most;
      room = s.room;
      own = held-own (own_of m) (n_of m) bytes s.held s.small fine;
    })
  where
    fine : (k : ℕ) → k < 256 → MarkRight (own_of m) k
    fine k l =
        ⊎_elim (λ e. inl (own-live m k l ∙ e))
        (λ p. inr (own-live m k l ∙ p.0, omega (arith, own-place m k l, p.1, ap (λ (b : List ℕ). length (decode b)) s.held.bytes)))
        (marks k l)

-- THEOREM: what an edit leaves is shaped
module _ (m : List ℕ) (ok : shaped m ≡ true) where
  abbrev o : List ℕ
  o = own_of m

  abbrev n : ℕ
  n = n_of m

  met : need_met m ≡ true
  unfolding shaped
  met = and_left (need_met m) _ ok

  tree : tree_right o ≡ true
  unfolding shaped
  tree = and_left (tree_right o) _ (and_right (need_met m) _ ok)

  slots : slots_right o ≡ true
  unfolding shaped
  slots = and_left (slots_right o) _ (and_right (tree_right o) _ (and_right (need_met m) _ ok))

  sized : size_right o ≡ true
  unfolding shaped
  sized = and_right (slots_right o) (size_right o) (and_right (tree_right o) _ (and_right (need_met m) _ ok))

  least : 17 ≤ n
  unfolding need_met
  least = leb-true 17 n (and_left (leb 17 n) _ met)

  most : n ≤ 4096
  unfolding need_met
  most = leb-true n 4096 (and_left (leb n 4096) _ (and_right (leb 17 n) _ met))

  enough : need n ≤ length m
  unfolding need_met
  enough = leb-true (need n) (length m) (and_right (leb n 4096) _ (and_right (leb 17 n) _ met))

  good : sound o (least_root (height_of o)) (height_of o) (root_of o).slot ≡ true
  unfolding tree_right
  good = and_left _ (told_right o (height_of o) (root_of o)) tree

  told : told_right o (height_of o) (root_of o) ≡ true
  unfolding tree_right
  told = and_right (sound o (least_root (height_of o)) (height_of o) (root_of o).slot) _ tree

  chain : chained o n n (free_of o) ≡ true
  unfolding slots_right
  chain = sym (ap (λ (j : ℕ). chained o j j (free_of o)) (own-n m)) ∙ and_left (chained o (n_of o) (n_of o) (free_of o)) _ slots

  each : (x : ℕ) → x < n → in_tree o x + free o n x ≡ 1
  unfolding slots_right
  each x l =
      sym (ap (λ (j : ℕ). in_tree o x + frees o j j (free_of o) x) (own-n m))
      ∙ eqb-true (in_tree o x + in_free o x) 1
      (below_at (λ x. eqb (in_tree o x + in_free o x) 1) (n_of o) x (and_right (chained o (n_of o) (n_of o) (free_of o)) _ slots) (omega (arith, own-n m)))

  pub is-shaped : Shaped m (note_bytes o)
  unfolding size_right
  is-shaped =
      record {
        held = record {
          least = least;
          most = most;
          slotted = record {
            long = own-length m enough;
            stored = own-n m;
            chain = chain;
            once = λ x. cut x n (λ l. omega (arith, each x l)) (λ l. omega (arith, frees-past o n n (free_of o) x l));
          };
          good = good;
          told = told;
          each = each;
          bytes = refl;
          size = omega (arith, leb-true (length (note_bytes o)) (limit (n_of o)) sized, ap (λ (j : ℕ). limit j) (own-n m));
        };
        room = enough;
        small = omega (arith, leb-true (length (note_bytes o)) (limit (n_of o)) sized, ap (λ (j : ℕ). limit j) (own-n m));
      }
