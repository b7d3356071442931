-- What opening makes is well formed, and its note is empty, without marks, its edit number 0; what lies beyond the need stays as it was.
use Rattle.answer.specs.Answers.{Answer, outcome}
use Rattle.std.specs.Prelude.{Ok}
use mathlib.Core.Path.{◌≡◌, refl, sym, ap, subst, ◌∙◌}
use mathlib.Core.Bool.{Bool, true, false, ◌||◌}
use mathlib.Core.List.{List}
use Prim.Native.Nat.{ℕ, ◌+◌, ◌-◌, ◌≤◌, ◌<◌}
use native.Mathlib.Omega.{arith}
use lib.Dec.{ltb}
use lib.ListN.{length, take, drop, get_or}
use lib.Seq.{length-take-le, take-take}
use borrow.Author.Tests.{ltb-false, le-leb}
use Rattle.plain.specs.Outcome.{Outcome, Outcome.value, Outcome.refused, past, mapped, kept}
use Rattle.plain.proofs.Logic.{neither}
use Rattle.plain.proofs.Outcome.{one-applies, one-passed}
use Rattle.plain_note.specs.Note.{Note, need, opened, opening, head_size}
use Rattle.octets.specs.Over.{overlaid}
use Rattle.octets.proofs.Over.{overlaid-length, part-is, over-rest, part-is-laid}
use Rattle.octets.specs.Big.{two_at, four_at}
use Rattle.pool.specs.Slot.{slot_start, slot_of, kind_of, next_of, head_bytes, head_put}
use Rattle.pool.specs.Calls.{Wrote}
use Rattle.pool.proofs.Slots.{head-kind, head-len, head-front, head-size, head-length}
use Rattle.note_head.specs.Head.{own_of}
use Rattle.memory.specs.Formed.{tree_right, slots_right, size_right, need_met, well_formed, note_of}
use Rattle.opening.specs.Opened.{new_head, opened_memory, misfit, opens}
use Rattle.opening.proofs.Laid.{new-length}
use Rattle.opening.proofs.Frees.{frees-size, frees-front, frees-others, frees-behind, frees-slot}
use Rattle.opening.proofs.Head.{n-is}
use Rattle.opening.proofs.Fresh.{Fresh, both, tree-fresh, slots-fresh, size-fresh, marks-fresh, note-fresh}

-- what is known of a memory m once n slots have been opened in it
pub record Opened (m : List ℕ) (n : ℕ) (after : List ℕ) : Type 0 where
  pub formed : well_formed after ≡ true
  pub note : note_of after ≡ opened n
  pub size : length after ≡ length m
  pub beyond : drop (need n) after ≡ drop (need n) m

module _ (m : List ℕ) (n : ℕ) (l : 17 ≤ n) (u : n ≤ 4096) (h : need n ≤ length m) where
  -- the memory with its head, and with its leaf too
  abbrev headed : List ℕ
  headed = overlaid 0 (new_head n) m

  abbrev leafed : List ℕ
  leafed = head_put headed 0 1 0 0

  headed-size : length headed ≡ length m
  headed-size = overlaid-length 0 (new_head n) m (omega (arith, new-length n))

  there : slot_start 0 + 640 ≤ length headed
  there = omega (arith, headed-size)

  leafed-size : length leafed ≡ length m
  leafed-size = head-size headed 0 1 0 0 there ∙ headed-size

  room : slot_start (1 + (n - 1)) ≤ length leafed
  room = omega (arith, leafed-size)

  opened-size : length (opened_memory m n) ≡ length m
  unfolding opened_memory
  opened-size = frees-size leafed 1 (n - 1) room ∙ leafed-size

  opened-beyond : drop (need n) (opened_memory m n) ≡ drop (need n) m
  unfolding opened_memory
  opened-beyond =
      frees-behind leafed 1 (n - 1) room (need n) (omega arith)
      ∙ over-rest (slot_start 0) (head_bytes 1 0 0) headed (omega (arith, head-length 1 0 0, headed-size)) (need n) (omega (arith, head-length 1 0 0))
      ∙ over-rest 0 (new_head n) m (omega (arith, new-length n)) (need n) (omega (arith, new-length n))

  opened-head : take head_size (opened_memory m n) ≡ new_head n
  unfolding opened_memory
  opened-head = frees-front leafed 1 (n - 1) room ∙ head-front headed 0 1 0 0 there ∙ part-is-laid 0 head_size (new_head n) m (omega arith) (new-length n)

  opened-leaf : slot_of (opened_memory m n) 0 ≡ slot_of leafed 0
  unfolding opened_memory
  opened-leaf = frees-others leafed 1 (n - 1) room 0 (omega arith)

  opened-free : (s : ℕ) → 1 ≤ s → s < n → (kind_of (opened_memory m n) s ≡ 0) × (next_of (opened_memory m n) s ≡ s + 1)
  unfolding opened_memory
  opened-free s a b = frees-slot leafed 1 (n - 1) s room (omega arith) a (omega arith)

  -- ── the part of it that the note has ──

  own_is : own_of (opened_memory m n) ≡ take (need n) (opened_memory m n)
  unfolding own_of
  own_is = ap (λ (k : ℕ). take (need k) (opened_memory m n)) (n-is (opened_memory m n) n opened-head (omega arith))

  own-size : length (take (need n) (opened_memory m n)) ≡ need n
  own-size = length-take-le (need n) (opened_memory m n) (omega (arith, opened-size))

  own-slot : (s : ℕ) → s < n → slot_of (take (need n) (opened_memory m n)) s ≡ slot_of (opened_memory m n) s
  unfolding slot_of
  own-slot s k = ap (take 640) (part-is (slot_start s) (need n) (opened_memory m n)) ∙ take-take 640 (need n - slot_start s) (drop (slot_start s) (opened_memory m n)) (omega arith)

  own-leaf : slot_of (take (need n) (opened_memory m n)) 0 ≡ slot_of leafed 0
  own-leaf = own-slot 0 (omega arith) ∙ opened-leaf

  fresh : Fresh (take (need n) (opened_memory m n)) n
  fresh = record {
    some = omega arith;
    few = omega arith;
    long = omega (arith, own-size);
    head = take-take head_size (need n) (opened_memory m n) (omega arith) ∙ opened-head;
    leaf = (ap (λ (b : List ℕ). get_or b 0 0) own-leaf ∙ head-kind headed 0 1 0 0 there, ap (λ (b : List ℕ). two_at b 2) own-leaf ∙ head-len headed 0 1 0 0 there (omega arith));
    free = λ s a b. (ap (λ (c : List ℕ). get_or c 0 0) (own-slot s b) ∙ (opened-free s a b).0, ap (λ (c : List ℕ). four_at c 4) (own-slot s b) ∙ (opened-free s a b).1);
  }

  own_fresh : Fresh (own_of (opened_memory m n)) n
  own_fresh = subst (λ (o : List ℕ). Fresh o n) (sym own_is) fresh

  need-met : need_met (opened_memory m n) ≡ true
  unfolding need_met
  need-met = rw (n-is (opened_memory m n) n opened-head (omega arith), le-leb 17 n l, le-leb n 4096 u, le-leb (need n) (length (opened_memory m n)) (omega (arith, opened-size)))

  opened-formed : well_formed (opened_memory m n) ≡ true
  unfolding well_formed
  opened-formed =
      let o = own_of (opened_memory m n) in
      both (need_met (opened_memory m n)) _ need-met
      (both (tree_right o) _ (tree-fresh o n own_fresh) (both (slots_right o) _ (slots-fresh o n own_fresh) (both (size_right o) _ (size-fresh o n own_fresh) (marks-fresh o n own_fresh))))

  -- THEOREM: opening makes a well-formed memory whose note is empty, and touches nothing beyond the need
  pub opened-is : Opened m n (opened_memory m n)
  opened-is = record { formed = opened-formed; note = note-fresh (own_of (opened_memory m n)) n own_fresh; size = opened-size; beyond = opened-beyond }

-- ── the call ──

-- an answer is accepted or refused alike, whatever is read of its value
answered-alike : (o : Outcome (List ℕ)) → ◌≡◌ {A = Outcome (Unit {0})} (mapped (λ t. tt) o) (mapped (λ N. tt) (mapped note_of o))
answered-alike (value t) = refl
answered-alike (refused k) = refl

module _ (m : List ℕ) (n : ℕ) where
  fitting : misfit n (length m) ≡ false → (17 ≤ n) × (n ≤ 4096) × (need n ≤ length m)
  fitting e =
      let a = neither (ltb n 17) (past n 4096 || past (need n) (length m)) e in
      let b = neither (past n 4096) (past (need n) (length m)) a.1 in
      (ltb-false n 17 a.0, ltb-false 4096 n b.0, ltb-false (length m) (need n) b.1)

  -- THEOREM: the call comes to what opening a plain note does, refusal and note
  pub opens-note : mapped note_of (opens m n) ≡ opening n (length m)
  unfolding opens opening
  opens-note = go (misfit n (length m)) refl
    where
      go : (t : Bool) → misfit n (length m) ≡ t → mapped note_of (opens m n) ≡ opening n (length m)
      go true e = ap (mapped note_of) (one-applies 1 (misfit n (length m)) (opened_memory m n) e) ∙ sym (one-applies 1 (misfit n (length m)) (opened n) e)
      go false e =
          let f = fitting e in
          ap (mapped note_of) (one-passed 1 (misfit n (length m)) (opened_memory m n) e)
          ∙ ap (λ (N : Note). value N) (opened-is m n f.0 f.1 f.2).note
          ∙ sym (one-passed 1 (misfit n (length m)) (opened n) e)

  module _ (r : Answer (Unit {0})) (after : List ℕ) (w : Wrote (opens m n) m r after) where
    pub verdict-is : outcome r ≡ mapped (λ N. tt) (opening n (length m))
    verdict-is = w.answered ∙ answered-alike (opens m n) ∙ ap (mapped (λ N. tt)) opens-note

    -- THEOREM: an accepted call has opened the memory
    pub accepted-opened : r ≡ (Ok tt) → Opened m n after
    unfolding opens
    accepted-opened a = go (misfit n (length m)) refl
      where
        go : (t : Bool) → misfit n (length m) ≡ t → Opened m n after
        go true e =
            let p = ap outcome (sym a) ∙ w.answered ∙ ap (mapped (λ t. tt)) (one-applies 1 (misfit n (length m)) (opened_memory m n) e) in
            absurd (let z : ◌≡◌ {A = ℕ} 0 1 = cc in omega arith)
        go false e =
            let f = fitting e in
            let p = w.memory ∙ ap (kept m) (one-passed 1 (misfit n (length m)) (opened_memory m n) e) in
            subst (Opened m n) (sym p) (opened-is m n f.0 f.1 f.2)
