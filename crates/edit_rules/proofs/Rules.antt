-- What refuses an edit, rule by rule from what the calls below answered.
use mathlib.Core.Path.{◌≡◌, sym, ap, ◌∙◌}
use mathlib.Core.Bool.{true, false, not, ◌||◌}
use mathlib.Core.List.{List, [], ◌∷◌}
use Prim.Native.Nat.{ℕ, ◌+◌, ◌≤◌, ◌<◌}
use native.Mathlib.Omega.{arith}
use lib.Dec.{ltb}
use lib.ListN.{length}
use borrow.Author.Tests.{lt-ltb, le-ltb}
use Rattle.plain.specs.Utf8.{valid_utf8}
use Rattle.plain.specs.Place.{bytes}
use Rattle.plain.specs.Outcome.{Outcome.value, Outcome.refused, Rule, ruled, past}
use Rattle.plain.proofs.Logic.{or_left, or_right, or-none}
use Rattle.plain.proofs.Outcome.{rule-applies, rule-passed, one-applies, one-passed}
use Rattle.plain_note.specs.Note.{limit, insert_rules, piece_most}
use Rattle.plain_note.specs.Edits.{remove_rules}
use Rattle.note_head.specs.Head.{n_of, root_of}
use Rattle.memory.specs.Formed.{well_formed, note_of, of_note}
use Rattle.memory.proofs.Formed.{note-called, note-refused}
use Rattle.leaf_parts.proofs.Notes.{told}

-- the chars that the head of a well-formed memory says
pub chars-are : (m : List ℕ) → well_formed m ≡ true → (k : ℕ) → k ≡ (root_of m).info.chars → length (note_of m).text ≡ k
chars-are m ok k stored = sym (stored ∙ (told m ok).chars-told)

-- ── an insertion ──

module _ (m : List ℕ) (piece : List ℕ) (p : ℕ) where
  abbrev by-piece : Rule
  by-piece = (4, past (length piece) 256)

  abbrev by-text : Rule
  by-text = (5, not (valid_utf8 piece))

  abbrev by-room : Rule
  by-room = (6, past (bytes (note_of m).text + length piece) (limit (note_of m).n))

  pub insert-2 : well_formed m ≡ false → refused 2 ≡ of_note m (λ N. ruled (insert_rules piece_most N p piece) (tt {0}))
  insert-2 e = sym (note-refused m (λ N. ruled (insert_rules piece_most N p piece) (tt {0})) e)

  module _ (ok : well_formed m ≡ true) (k : ℕ) (stored : k ≡ (root_of m).info.chars) where
    on-2 : of_note m (λ N. ruled (insert_rules piece_most N p piece) (tt {0})) ≡ ruled (insert_rules piece_most (note_of m) p piece) (tt {0})
    on-2 = note-called m (λ N. ruled (insert_rules piece_most N p piece) (tt {0})) ok

    pub insert-3 : k < p → refused 3 ≡ of_note m (λ N. ruled (insert_rules piece_most N p piece) (tt {0}))
    insert-3 h =
        sym (on-2 ∙ rule-applies 3 (past p (length (note_of m).text)) (by-piece ∷ by-text ∷ by-room ∷ []) (tt {0}) (lt-ltb _ p (omega (arith, chars-are m ok k stored))))

    module _ (here : p ≤ k) where
      on-3 : of_note m (λ N. ruled (insert_rules piece_most N p piece) (tt {0})) ≡ ruled (by-piece ∷ by-text ∷ by-room ∷ []) (tt {0})
      on-3 = on-2 ∙ rule-passed 3 (past p (length (note_of m).text)) (by-piece ∷ by-text ∷ by-room ∷ []) (tt {0}) (le-ltb _ p (omega (arith, chars-are m ok k stored)))

      pub insert-4 : 256 < length piece → refused 4 ≡ of_note m (λ N. ruled (insert_rules piece_most N p piece) (tt {0}))
      insert-4 h = sym (on-3 ∙ rule-applies 4 (past (length piece) 256) (by-text ∷ by-room ∷ []) (tt {0}) (lt-ltb 256 (length piece) h))

      module _ (short : length piece ≤ 256) where
        on-4 : of_note m (λ N. ruled (insert_rules piece_most N p piece) (tt {0})) ≡ ruled (by-text ∷ by-room ∷ []) (tt {0})
        on-4 = on-3 ∙ rule-passed 4 (past (length piece) 256) (by-text ∷ by-room ∷ []) (tt {0}) (le-ltb 256 (length piece) short)

        pub insert-5 : valid_utf8 piece ≡ false → refused 5 ≡ of_note m (λ N. ruled (insert_rules piece_most N p piece) (tt {0}))
        insert-5 e = sym (on-4 ∙ rule-applies 5 (not (valid_utf8 piece)) (by-room ∷ []) (tt {0}) (ap not e))

        module _ (valid : valid_utf8 piece ≡ true) (most b : ℕ) (most-is : most ≡ limit (n_of m)) (b-is : b ≡ (root_of m).info.bytes) where
          on-5 : of_note m (λ N. ruled (insert_rules piece_most N p piece) (tt {0})) ≡ ruled (by-room ∷ []) (tt {0})
          on-5 = on-4 ∙ rule-passed 5 (not (valid_utf8 piece)) (by-room ∷ []) (tt {0}) (ap not valid)

          -- the rule of the size, over the numbers that the calls answered
          room : past (bytes (note_of m).text + length piece) (limit (note_of m).n) ≡ ltb most (b + length piece)
          room =
              ap (λ (x : ℕ). ltb x (bytes (note_of m).text + length piece)) (sym (most-is ∙ ap (λ (n : ℕ). limit n) (told m ok).slots-told))
              ∙ ap (λ (x : ℕ). ltb most (x + length piece)) (sym (b-is ∙ (told m ok).bytes-told))

          pub insert-6 : most < b + length piece → refused 6 ≡ of_note m (λ N. ruled (insert_rules piece_most N p piece) (tt {0}))
          insert-6 h = sym (on-5 ∙ one-applies 6 (past (bytes (note_of m).text + length piece) (limit (note_of m).n)) (tt {0}) (room ∙ lt-ltb most (b + length piece) h))

          pub insert-fine : b + length piece ≤ most → value (tt {0}) ≡ of_note m (λ N. ruled (insert_rules piece_most N p piece) (tt {0}))
          insert-fine h = sym (on-5 ∙ one-passed 6 (past (bytes (note_of m).text + length piece) (limit (note_of m).n)) (tt {0}) (room ∙ le-ltb most (b + length piece) h))

-- ── a removal ──

module _ (m : List ℕ) (s e : ℕ) where
  pub remove-2 : well_formed m ≡ false → refused 2 ≡ of_note m (λ N. ruled (remove_rules N s e) (tt {0}))
  remove-2 f = sym (note-refused m (λ N. ruled (remove_rules N s e) (tt {0})) f)

  module _ (ok : well_formed m ≡ true) where
    out-of-place : (past s e || past e (length (note_of m).text)) ≡ true → refused 3 ≡ of_note m (λ N. ruled (remove_rules N s e) (tt {0}))
    out-of-place f =
        sym (note-called m (λ N. ruled (remove_rules N s e) (tt {0})) ok ∙ one-applies 3 (past s e || past e (length (note_of m).text)) (tt {0}) f)

    pub remove-above : e < s → refused 3 ≡ of_note m (λ N. ruled (remove_rules N s e) (tt {0}))
    remove-above h = out-of-place (or_left (past s e) (past e (length (note_of m).text)) (lt-ltb e s h))

    module _ (k : ℕ) (stored : k ≡ (root_of m).info.chars) where
      pub remove-past : k < e → refused 3 ≡ of_note m (λ N. ruled (remove_rules N s e) (tt {0}))
      remove-past h = out-of-place (or_right (past s e) (past e (length (note_of m).text)) (lt-ltb (length (note_of m).text) e (omega (arith, chars-are m ok k stored))))

      pub remove-fine : s ≤ e → e ≤ k → value (tt {0}) ≡ of_note m (λ N. ruled (remove_rules N s e) (tt {0}))
      remove-fine h l =
          sym (note-called m (λ N. ruled (remove_rules N s e) (tt {0})) ok
          ∙ one-passed 3 (past s e || past e (length (note_of m).text)) (tt {0})
          (or-none (past s e) (past e (length (note_of m).text)) (le-ltb e s h) (le-ltb (length (note_of m).text) e (omega (arith, chars-are m ok k stored)))))
