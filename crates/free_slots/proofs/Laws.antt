-- The laws of slots taken and given back, where the free slots are a chain: it loses its first slot, or has one more before it, and no other
-- slot changes, nor any byte of the memory's head but the first free slot. All for a memory of fewer than 2^32 slots, whose numbers the four bytes hold.
use Rattle.answer.specs.Answers.{Answer, outcome}
use Rattle.std.specs.Prelude.{Ok}
use mathlib.Core.Path.{◌≡◌, refl, sym, ap, subst, ◌∙◌}
use mathlib.Core.Bool.{true}
use mathlib.Core.List.{List}
use Prim.Native.Nat.{ℕ, zero, suc, ◌+◌, ◌-◌, ◌≤◌, ◌<◌}
use native.Mathlib.Omega.{arith}
use native.Mathlib.Decide.{ℕ_discrete}
use lib.ListN.{length, take, drop, get_or}
use borrow.Author.Tests.{eqb-true}
use Rattle.plain_note.specs.Note.{head_size}
use Rattle.plain.specs.Outcome.{Outcome, Outcome.value, kept, mapped}
use Rattle.plain.proofs.Logic.{cut}
use Rattle.answer.proofs.Unique.{answer-one, answer-one}
use Rattle.octets.specs.Big.{four_at}
use Rattle.pool.specs.Slot.{slot_start, slot_of, kind_of, next_of, head_bytes, head_put}
use Rattle.pool.specs.Calls.{Wrote}
use Rattle.octets.proofs.Over.{over-front}
use Rattle.pool.proofs.Slots.{head-length, head-kind, head-next, head-others, head-front, head-size}
use Rattle.tree.specs.Tree.{hit}
use Rattle.tree.proofs.Size.{sum_below, below-add, hits-once}
use Rattle.tree.proofs.Frame.{hit-self}
use Rattle.tree.proofs.Within.{hit-not}
use Rattle.note_head.specs.Head.{n_of, free_of}
use Rattle.note_head.proofs.Own.{front-n}
use Rattle.note_head.proofs.Written.{number-around, free-set, free-front, number_same}
use Rattle.note_head.proofs.Table.{n-tells}
use Rattle.memory.specs.Formed.{frees, chained}
use Rattle.memory.proofs.Chain.{frees-end, chain-none, chain-on, frees-on}
use Rattle.edit_steps.specs.Became.{free, spare, Slotted}
use Rattle.edit_steps.proofs.Chains.{here, goes_on, lists, below-same, Steps, steps, KeptChain, kept-chain}
use Rattle.free_slots.specs.Slots.{taken_memory, taken, given_memory, given, Took}
use Rattle.free_slots.proofs.Rules.{taken-some, taken-it, given-it}

-- ── sums ──

below-zero : (n : ℕ) (f : ℕ → ℕ) → ((x : ℕ) → f x ≡ 0) → sum_below n f ≡ 0
unfolding sum_below
below-zero zero f e = refl
below-zero (suc n) f e = omega (arith, e n, below-zero n f e)

below-most : (n : ℕ) (f : ℕ → ℕ) → ((x : ℕ) → f x ≤ 1) → sum_below n f ≤ n
unfolding sum_below
below-most zero f e = omega arith
below-most (suc n) f e = omega (arith, e n, below-most n f e)

-- one slot more
below_one : (n s : ℕ) (f g : ℕ → ℕ) → s < n → ((x : ℕ) → f x ≡ g x + hit s x) → sum_below n f ≡ sum_below n g + 1
below_one n s f g h e = below-same n f (λ x. g x + hit s x) e ∙ below-add n g (hit s) ∙ omega (arith, hits-once n s h)

-- a chain begins at a slot, or at its end
chain_first : (m : List ℕ) (n k s : ℕ) → chained m n k s ≡ true → s ≤ n
chain_first m n zero s e = elim (ℕ_discrete s n) [ yes q ↦ omega arith | no q ↦ absurd (q (eqb-true s n (sym (chain-none m n s) ∙ e))) ]
chain_first m n (suc k) s e = elim (ℕ_discrete s n) [ yes q ↦ omega arith | no q ↦ (let h = here m n k s e q in omega (arith, h.0)) ]

-- ── what they leave ──

-- slot u taken
pub record Taken (m : List ℕ) (n u : ℕ) (later : List ℕ) : Type 0 where
  pub within : u < n
  pub was_free : free m n u ≡ 1
  pub slotted : Slotted later n
  pub leaves : (x : ℕ) → free later n x + hit u x ≡ free m n x
  pub same : (x : ℕ) → slot_of later x ≡ slot_of m x
  pub front : take 32 later ≡ take 32 m
  pub rest : drop 36 (take head_size later) ≡ drop 36 (take head_size m)
  pub spent : spare m n ≡ spare later n + 1

-- slot s given back
pub record Given (m : List ℕ) (n s : ℕ) (later : List ℕ) : Type 0 where
  pub slotted : Slotted later n
  pub joins : (x : ℕ) → free later n x ≡ free m n x + hit s x
  pub others : (x : ℕ) → (x ≡ s → ⊥) → slot_of later x ≡ slot_of m x
  pub front : take 32 later ≡ take 32 m
  pub rest : drop 36 (take head_size later) ≡ drop 36 (take head_size m)
  pub more : spare later n ≡ spare m n + 1

module _ (m : List ℕ) (n : ℕ) (few : n < 4294967296) (w : Slotted m n) where
  -- THEOREM: where a slot is free, the first one is one of n
  pub first-there : 1 ≤ spare m n → free_of m < n
  first-there h = elim (ℕ_discrete (free_of m) n) [ yes q ↦ absurd (omega (arith, none q)) | no q ↦ (let l = chain_first m n n (free_of m) w.chain in less (free_of m) n l q) ]
    where
      none : free_of m ≡ n → spare m n ≡ 0
      none q = below-zero n (free m n) (λ x. ap (λ (s : ℕ). frees m n n s x) q ∙ frees-end m n n x)

      less : (a b : ℕ) → a ≤ b → (a ≡ b → ⊥) → a < b
      less a b l q = cut a b (λ h. h) (λ h. absurd (q (omega arith)))

  head-there : head_size ≤ length m
  head-there = omega (arith, w.long)

  -- ── taking ──

  module _ (l : free_of m < n) where
    abbrev f : ℕ
    f = free_of m

    abbrev k : ℕ
    k = n - 1

    abbrev v : ℕ
    v = next_of m f

    abbrev later : List ℕ
    later = taken_memory m

    off : f ≡ n → ⊥
    off q = omega arith

    count : n ≡ suc k
    count = omega arith

    chain : chained m n (suc k) f ≡ true
    chain = sym (ap (λ (j : ℕ). chained m n j f) count) ∙ w.chain

    behind : chained m n k v ≡ true
    behind = goes_on m n k f chain off

    listed : (x : ℕ) → free m n x ≡ hit f x + frees m n k v x
    listed x = ap (λ (j : ℕ). frees m n j f x) count ∙ lists m n k f chain off x

    kept-it : KeptChain m later n k v
    kept-it = kept-chain m later n k v behind (λ x g. (number-around m head-there 32 v (omega arith)).slots x)

    stepped : Steps later n k n v
    stepped = steps later n k n v kept-it.chain (below-most n (frees later n k v) (λ x. omega (arith, kept-it.same x, listed x, w.once x)))

    first-is : free_of later ≡ v
    first-is = free-set m head-there v (omega (arith, chain_first m n k v behind))

    free-is : (x : ℕ) → free later n x ≡ frees m n k v x
    free-is x = ap (λ (s : ℕ). frees later n n s x) first-is ∙ stepped.same x ∙ kept-it.same x

    pub taken-value : taken m ≡ value (f, later)
    taken-value = taken-it m (omega (arith, w.long)) (here m n k f chain off).1

    -- THEOREM: the first free slot is taken
    pub taken_is : Taken m n f later
    taken_is =
        record {
          within = l;
          was_free = omega (arith, w.once f, listed f, hit-self f);
          slotted = record {
            long = (number-around m head-there 32 v (omega arith)).size ∙ w.long;
            stored = number_same m head-there n-tells 32 v refl ∙ w.stored;
            chain = ap (chained later n n) first-is ∙ stepped.chain;
            once = λ x. omega (arith, free-is x, listed x, w.once x);
          };
          leaves = λ x. omega (arith, free-is x, listed x);
          same = (number-around m head-there 32 v (omega arith)).slots;
          front = free-front m head-there v;
          rest = (number-around m head-there 32 v (omega arith)).rest;
          spent = below_one n f (free m n) (free later n) l (λ x. omega (arith, free-is x, listed x));
        }

  -- ── giving ──

  module _ (s : ℕ) (l : s < n) (g : free m n s ≡ 0) where
    abbrev i : ℕ
    i = n - 1

    abbrev made : List ℕ
    made = head_put m s 0 0 (free_of m)

    abbrev after : List ℕ
    after = given_memory m s

    inside : slot_start s + 640 ≤ length m
    inside = omega (arith, w.long)

    long : head_size ≤ length made
    long = omega (arith, head-size m s 0 0 (free_of m) inside, head-there)

    others_same : (x : ℕ) → (x ≡ s → ⊥) → slot_of after x ≡ slot_of m x
    others_same x q = (number-around made long 32 s (omega arith)).slots x ∙ head-others m s 0 0 (free_of m) inside x q

    kind-is : kind_of after s ≡ 0
    kind-is = ap (λ (b : List ℕ). get_or b 0 0) ((number-around made long 32 s (omega arith)).slots s) ∙ head-kind m s 0 0 (free_of m) inside

    next-is : next_of after s ≡ free_of m
    next-is =
        ap (λ (b : List ℕ). four_at b 4) ((number-around made long 32 s (omega arith)).slots s)
        ∙ head-next m s 0 0 (free_of m) inside (omega (arith, chain_first m n n (free_of m) w.chain))

    one_each : (x : ℕ) → free m n x + hit s x ≤ 1
    one_each x =
        elim (ℕ_discrete s x) [
          | yes q ↦ omega (arith, ap (free m n) (sym q) ∙ g, ap (hit s) (sym q) ∙ hit-self s)
          | no q ↦ omega (arith, w.once x, hit-not s x q)
        ]

    -- the slots that were free leave room for one more step
    room : sum_below n (free m n) ≤ i
    room = omega (arith, below-most n (λ x. free m n x + hit s x) one_each, below-add n (free m n) (hit s), hits-once n s l)

    shorter : Steps m n n i (free_of m)
    shorter = steps m n n i (free_of m) w.chain room

    kept-all : KeptChain m after n i (free_of m)
    kept-all = kept-chain m after n i (free_of m) shorter.chain (λ x h. others_same x (λ q. omega (arith, shorter.same x, ap (free m n) q ∙ g)))

    now-first : free_of after ≡ s
    now-first = free-set made long s (omega arith)

    total : n ≡ suc i
    total = omega arith

    chain-now : chained after n n (free_of after) ≡ true
    chain-now =
        ap (chained after n n) now-first
        ∙ ap (λ (j : ℕ). chained after n j s) total
        ∙ chain-on after n i s l kind-is
        ∙ ap (chained after n i) next-is
        ∙ kept-all.chain

    free-now : (x : ℕ) → free after n x ≡ free m n x + hit s x
    free-now x =
        ap (λ (a : ℕ). frees after n n a x) now-first
        ∙ ap (λ (j : ℕ). frees after n j s x) total
        ∙ frees-on after n i s x l
        ∙ omega (arith, ap (λ (a : ℕ). frees after n i a x) next-is, kept-all.same x, shorter.same x)

    stored-too : n_of after ≡ n
    stored-too =
        number_same made long n-tells 32 s refl
        ∙ sym (front-n made head_size (omega arith))
        ∙ ap n_of (head-front m s 0 0 (free_of m) inside)
        ∙ front-n m head_size (omega arith)
        ∙ w.stored

    pub given-value : given m s ≡ value after
    given-value = given-it m s (omega arith) inside

    -- THEOREM: a slot that is not free becomes the first free one
    pub given_is : Given m n s after
    given_is =
        record {
          slotted = record {
            long = (number-around made long 32 s (omega arith)).size ∙ head-size m s 0 0 (free_of m) inside ∙ w.long;
            stored = stored-too;
            chain = chain-now;
            once = λ x. omega (arith, free-now x, one_each x);
          };
          joins = free-now;
          others = others_same;
          front =
              free-front made long s
              ∙ over-front (slot_start s) (head_bytes 0 0 (free_of m)) m (omega (arith, head-length 0 0 (free_of m), inside)) 32 (omega arith);
          rest = (number-around made long 32 s (omega arith)).rest ∙ ap (drop 36) (head-front m s 0 0 (free_of m) inside);
          more = below_one n s (free after n) (free m n) l free-now;
        }

  -- ── the calls ──

  module _ (r : Answer ℕ) (after : List ℕ) (t : Took (taken m) m r after) where
    took_it : (l : free_of m < n) → (r ≡ Ok (free_of m)) × Taken m n (free_of m) after
    took_it l =
        let e = taken-value l in
        let p = t.memory ∙ ap (λ (o : Outcome (ℕ × List ℕ)). kept m (mapped (λ q. q.1) o)) e in
        (answer-one r (Ok (free_of m)) (t.answered ∙ ap (mapped (λ q. q.0)) e), subst (Taken m n (free_of m)) (sym p) (taken_is l))

    -- THEOREM: where a slot is free, the call takes one
    pub took-there : 1 ≤ spare m n → (r ≡ Ok (free_of m)) × Taken m n (free_of m) after
    took-there h = took_it (first-there h)

    -- THEOREM: a slot that the call answers was taken
    pub took-opened : (u : ℕ) → r ≡ Ok u → Taken m n u after
    took-opened u e =
        let l : free_of m < n = omega (arith, taken-some m u (sym t.answered ∙ ap outcome e), w.long) in
        let o = took_it l in
        let y : value (free_of m) ≡ value u = sym (ap outcome o.0) ∙ ap outcome e in
        let z : free_of m ≡ u = cc in
        subst (λ (x : ℕ). Taken m n x after) z o.1

  -- THEOREM: a slot that is not free is given back
  pub gave : (s : ℕ) → s < n → free m n s ≡ 0 → (v : Answer (Unit {0})) (after : List ℕ) → Wrote (given m s) m v after → (v ≡ (Ok tt)) × Given m n s after
  gave s l g v after t =
      let e = given-value s l g in
      (answer-one v (Ok tt) (t.answered ∙ ap (mapped (λ x. tt)) e), subst (Given m n s) (sym (t.memory ∙ ap (λ (o : Outcome (List ℕ)). kept m o) e)) (given_is s l g))
