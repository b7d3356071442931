-- An answer opened by a caller: what is then known of the slot, and of the memory afterwards.
use Rattle.std.specs.Prelude.{Ok, Err}
use mathlib.Core.Path.{◌≡◌, refl, sym, ap, subst, ◌∙◌}
use mathlib.Core.Bool.{Bool, true, false, ◌&&◌, ◌||◌, cond}
use mathlib.Core.List.{List, [], ◌∷◌}
use Prim.Native.Nat.{ℕ, ◌+◌, ◌≤◌, ◌<◌}
use native.Mathlib.Omega.{arith}
use lib.Dec.{eqb}
use lib.ListN.{length, get_or}
use borrow.Author.Tests.{ltb-false, le-ltb, eqb-true, eqb-false}
use Rattle.plain.specs.Outcome.{Outcome, Outcome.value, Outcome.refused, past, mapped}
use Rattle.plain.proofs.Logic.{neither}
use Rattle.plain.proofs.Outcome.{rule-passed, one-passed, accepted, all-accepted}
use Rattle.answer.specs.Answers.{refusal_number, Answer, outcome}
use Rattle.answer.specs.declared.Refusal.{Refusal}
use Rattle.answer.proofs.Opened.{never-refused}
use Rattle.leaf_bytes.proofs.Opened.{never}
use Rattle.text_info.specs.declared.TextInfo.{TextInfo}
use Rattle.pool.specs.declared.Kid.{Kid}
use Rattle.pool.specs.declared.Head.{Head}
use Rattle.pool.specs.Slot.{slot_start, kind_of, len_of, next_of, region_of, entries, no_kid, head_put, kid_put}
use Rattle.pool.specs.Calls.{outside, no_entry, Held, Held.free, Held.leaf, Held.list, held, held_by, wrong_head, head_of, kid_of, child_of, info_of, region_start, head_set, kid_set, Wrote}
use Rattle.pool.proofs.Rules.{above}

inside : (m : List ℕ) (s : ℕ) → outside m s ≡ false → slot_start s + 640 ≤ length m
inside m s e = ltb-false (length m) (slot_start s + 640) e

-- ── a head ──

-- what a kind, a length and a next slot say, where they are a head
abbrev pub Says : ℕ → ℕ → ℕ → Held → Type 0
Says kind len next (free n) = (kind ≡ 0) × (next ≡ n)
Says kind len next (leaf n) = (kind ≡ 1) × (len ≡ n) × (n ≤ 512)
Says kind len next (list n) = (kind ≡ 2) × (len ≡ n) × (n ≤ 16)

says : (kind len next : ℕ) → wrong_head kind len ≡ false → Says kind len next (held_by kind len next)
says kind len next e =
    let n = neither (past kind 2) _ e in
    let p = neither (eqb kind 1 && past len 512) (eqb kind 2 && past len 16) n.1 in
    go (eqb kind 0) refl (eqb kind 1) refl (eqb kind 2) refl (ltb-false 2 kind n.0) p.0 p.1
  where
    two : (k : ℕ) → k ≤ 2 → eqb k 0 ≡ false → eqb k 1 ≡ false → eqb k 2 ≡ false → ⊥
    two k h a b c = let l = above k (eqb-false k 0 a) (eqb-false k 1 b) (eqb-false k 2 c) in omega arith

    go : (a : Bool) → eqb kind 0 ≡ a → (b : Bool) → eqb kind 1 ≡ b → (c : Bool) → eqb kind 2 ≡ c → kind ≤ 2 → (b && past len 512) ≡ false → (c && past len 16) ≡ false
        → Says kind len next (cond a (free next) (cond b (leaf len) (list len)))
    go true ea b eb c ec h f g = (eqb-true kind 0 ea, refl)
    go false ea true eb c ec h f g = (eqb-true kind 1 eb, refl, ltb-false 512 len f)
    go false ea false eb true ec h f g = (eqb-true kind 2 ec, refl, ltb-false 16 len g)
    go false ea false eb false ec h f g = absurd (two kind h ea eb ec)

pub head_opened : (r : Answer Head) (m : List ℕ) (s : ℕ) (h : Held) → held r ≡ head_of m s → held r ≡ value h → (slot_start s + 640 ≤ length m) × Says (kind_of m s) (len_of m s) (next_of m s) h
unfolding head_of
head_opened r m s h p e =
    let a = accepted 2 (outside m s || wrong_head (kind_of m s) (len_of m s)) [] (held_by (kind_of m s) (len_of m s) (next_of m s)) h (sym p ∙ e) in
    let n = neither (outside m s) (wrong_head (kind_of m s) (len_of m s)) a.0 in
    (inside m s n.0, subst (Says (kind_of m s) (len_of m s) (next_of m s)) (all-accepted (held_by (kind_of m s) (len_of m s) (next_of m s)) h a.1) (says (kind_of m s) (len_of m s) (next_of m s) n.1))

-- ── the place of a region ──

pub region-opened : (r : Answer ℕ) (m : List ℕ) (s a : ℕ) → outcome r ≡ region_start m s → r ≡ Ok a → (slot_start s + 640 ≤ length m) × (a ≡ slot_start s + 128)
unfolding region_start
region-opened r m s a p e =
    let b = accepted 2 (outside m s) [] (slot_start s + 128) a (sym p ∙ ap outcome e) in
    (inside m s b.0, sym (all-accepted (slot_start s + 128) a b.1))

-- ── an entry ──

pub entry-opened : (r : Answer Kid) (m : List ℕ) (s i : ℕ) (k : Kid) → outcome r ≡ kid_of m s i → r ≡ Ok k
    → (slot_start s + 640 ≤ length m) × (i < 16) × (k ≡ get_or (entries (region_of m s)) i no_kid)
unfolding kid_of
entry-opened r m s i k p e =
    let v = get_or (entries (region_of m s)) i no_kid in
    let a = accepted 2 (outside m s) (no_entry i ∷ []) v k (sym p ∙ ap outcome e) in
    let b = accepted 3 (past i 15) [] v k a.1 in
    (inside m s a.0, (let h = ltb-false 15 i b.0 in omega arith), sym (all-accepted v k b.1))

-- of a slot in the memory no entry is refused
pub entry-there : (r : Answer Kid) (m : List ℕ) (s i : ℕ) (q : Refusal) → outcome r ≡ kid_of m s i → r ≡ Err q → slot_start s + 640 ≤ length m → i < 16 → ⊥
unfolding kid_of
entry-there r m s i q p e h k =
    let v = get_or (entries (region_of m s)) i no_kid in
    never (refusal_number q) v
    (sym (ap outcome e) ∙ p ∙ rule-passed 2 (outside m s) (no_entry i ∷ []) v (le-ltb (length m) (slot_start s + 640) h) ∙ one-passed 3 (past i 15) v (le-ltb 15 i (omega arith)))

-- the slot of its child, and the counts
module _ (m : List ℕ) (s i : ℕ) (h : slot_start s + 640 ≤ length m) (k : i < 16) where
  abbrev held-kid : Kid
  held-kid = get_or (entries (region_of m s)) i no_kid

  there : kid_of m s i ≡ value held-kid
  unfolding kid_of
  there =
      rule-passed 2 (outside m s) (no_entry i ∷ []) held-kid (le-ltb (length m) (slot_start s + 640) h)
      ∙ one-passed 3 (past i 15) held-kid (le-ltb 15 i (omega arith))

  same-value : {A : Type 0} (a b : A) → value a ≡ value b → a ≡ b
  same-value a b e = cc

  module _ (r : Answer ℕ) (promise : outcome r ≡ child_of m s i) where
    child-is : outcome r ≡ value held-kid.slot
    child-is = promise ∙ ap (mapped (λ (x : Kid). x.slot)) there

    pub child-opened : (n : ℕ) → r ≡ Ok n → n ≡ held-kid.slot
    child-opened n e = same-value n held-kid.slot (sym (ap outcome e) ∙ child-is)

    pub child-there : (q : Refusal) → r ≡ Err q → ⊥
    child-there q e = never (refusal_number q) held-kid.slot (sym (ap outcome e) ∙ child-is)

  module _ (r : Answer TextInfo) (promise : outcome r ≡ info_of m s i) where
    info-is : outcome r ≡ value held-kid.info
    info-is = promise ∙ ap (mapped (λ (x : Kid). x.info)) there

    pub info-opened : (t : TextInfo) → r ≡ Ok t → t ≡ held-kid.info
    info-opened t e = same-value t held-kid.info (sym (ap outcome e) ∙ info-is)

    pub info-there : (q : Refusal) → r ≡ Err q → ⊥
    info-there q e = never (refusal_number q) held-kid.info (sym (ap outcome e) ∙ info-is)

-- ── a write ──

-- of a refused call the memory is as it was; of an accepted one no rule applied, and it is the new one
pub wrote-not : (o : Outcome (List ℕ)) (before : List ℕ) (q : Refusal) (after : List ℕ) → Wrote o before (Err q) after → after ≡ before
wrote-not (value m) before q after w = absurd (let p = w.answered in let z : ◌≡◌ {A = ℕ} 0 1 = cc in omega arith)
wrote-not (refused n) before q after w = w.memory

-- what is written where a law says that it is not refused
pub wrote-never : {X : Type 0} (o : Outcome (List ℕ)) (before : List ℕ) (r : Answer (Unit {0})) (after : List ℕ) → Wrote o before r after → (t : List ℕ) → o ≡ value t
    → (q : Refusal) → r ≡ Err q → X
wrote-never o before r after w t e q f = never-refused q r tt (w.answered ∙ ap (mapped (λ x. tt)) e) f

wrote_it : (o : Outcome (List ℕ)) (before after : List ℕ) → Wrote o before (Ok tt) after → o ≡ value after
wrote_it (value m) before after w = ap (λ (l : List ℕ). value l) (sym w.memory)
wrote_it (refused n) before after w = absurd (let p = w.answered in let z : ◌≡◌ {A = ℕ} 0 1 = cc in omega arith)

pub head-wrote : (m : List ℕ) (s kind len most next : ℕ) (after : List ℕ) → Wrote (head_set m s kind len most next) m (Ok tt) after
    → (slot_start s + 640 ≤ length m) × (len ≤ most) × (after ≡ head_put m s kind len next)
unfolding head_set
head-wrote m s kind len most next after w =
    let v = head_put m s kind len next in
    let a = accepted 2 (outside m s) ((11, past len most) ∷ []) v after (wrote_it _ m after w) in
    let b = accepted 11 (past len most) [] v after a.1 in
    (inside m s a.0, ltb-false most len b.0, sym (all-accepted v after b.1))

pub kid-wrote : (m : List ℕ) (s i : ℕ) (k : Kid) (after : List ℕ) → Wrote (kid_set m s i k) m (Ok tt) after
    → (slot_start s + 640 ≤ length m) × (i < 16) × (after ≡ kid_put m s i k)
unfolding kid_set
kid-wrote m s i k after w =
    let v = kid_put m s i k in
    let a = accepted 2 (outside m s) (no_entry i ∷ []) v after (wrote_it _ m after w) in
    let b = accepted 3 (past i 15) [] v after a.1 in
    (inside m s a.0, (let h = ltb-false 15 i b.0 in omega arith), sym (all-accepted v after b.1))
