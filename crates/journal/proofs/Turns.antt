-- The end of a listing put behind its fields, a turn with its buffer, and what refuses one.
use mathlib.Core.Path.{◌≡◌, refl, sym, ap, subst, ◌∙◌}
use mathlib.Core.Bool.{Bool, true, false, not, ◌||◌, cond, false≢true}
use mathlib.Core.List.{List, [], ◌++◌, append_assoc, append-nil}
use mathlib.Core.Logic.{◌⊎◌, inl, inr}
use Prim.Native.Nat.{ℕ, ◌+◌, ◌-◌, ◌^◌, ◌≤◌, ◌<◌}
use native.Mathlib.Omega.{arith}
use lib.ListN.{length, take, drop, take-append-drop}
use lib.Seq.{length-take-le, take-length, take-take}
use borrow.Author.Tests.{lt-ltb, le-ltb}
use Rattle.plain.specs.Outcome.{Outcome, Outcome.value, Outcome.refused, ruled, past}
use Rattle.plain.proofs.Logic.{cut}
use Rattle.plain_calls.specs.Calls.{Call}
use Rattle.octets.proofs.Over.{part-is}
use Rattle.memory.specs.Formed.{well_formed, note_of}
use Rattle.plain_journal.specs.Fields.{fields_of}
use Rattle.framing.specs.Field.{is_whole}
use Rattle.plain_journal.specs.Replay.{codes}
use Rattle.plain_journal.specs.Listing.{field_line, field_lines, ending}
use Rattle.plain_journal.proofs.Framing.{fields-none, fields-cut}
use Rattle.journal_fields.specs.declared.Done.TheVariants as Done·case
use Rattle.journal.specs.declared.fields.Fed.{Fed}
use Rattle.journal.specs.declared.Served.{Served}
use Rattle.journal.specs.declared.State.{State}
use Rattle.journal.specs.Turns.{Played, Replays, lines_of, Feeds, Finishes, Serves, Advances, turn_rules}
use Rattle.journal_fields.specs.Applied.{Starved}
use Rattle.journal.proofs.Played.{replays}

-- ── what is left where the input has ended ──

module _ (m s : List ℕ) (k : ℕ) where
  -- nothing
  nil : length s ≡ 0 → fields_of s ≡ []
  nil e = fields-none s e

  pub lines-nil : length s ≡ 0 → lines_of m k s ≡ []
  unfolding codes field_lines
  lines-nil e = ap (λ (fs : List (Outcome Call)). field_lines k (codes (note_of m) fs)) (nil e)

  -- a cut field
  module _ (some : length s ≡ 0 → ⊥) (w : is_whole s ≡ false) where
    pub lines_cut : lines_of m k s ≡ field_line k 10
    unfolding codes field_lines
    lines_cut = ap (λ (fs : List (Outcome Call)). field_lines k (codes (note_of m) fs)) (fields-cut s some w) ∙ append-nil (field_line k 10)

    pub one-cut : length (fields_of s) ≡ 1
    one-cut = ap length (fields-cut s some w)

  -- either changes no byte
  pub played-rest : is_whole s ≡ false → Played m (fields_of s) m
  played-rest w =
      cut (length s) 1
      (λ l. subst (λ (fs : List (Outcome Call)). Played m fs m) (sym (nil (omega arith))) refl)
      (λ l. subst (λ (fs : List (Outcome Call)). Played m fs m) (sym (fields-cut s (λ z. omega arith) w)) (Done·case.Bad, m, (refl, refl, refl), refl))

-- ── the fields, and the end ──

module _ (m m' buf o o₁ : List ℕ) (k : ℕ) (last : Bool) (r : Fed) (e : Feeds m m' buf k o o₁ r) where
  -- the fields of the buffer with more behind it
  whole-are : (more : List ℕ) → fields_of (buf ++ more) ≡ fields_of (take r.used buf) ++ cond r.ended [] (fields_of (drop r.used buf ++ more))
  whole-are more =
      ap (λ (l : List ℕ). fields_of (l ++ more)) (sym (take-append-drop r.used buf))
      ∙ ap fields_of (append_assoc (take r.used buf) (drop r.used buf) more)
      ∙ e.whole (drop r.used buf ++ more)

  pub served-ended : (o' : List ℕ) (p : ℕ) → r.ended ≡ true → (p ≤ r.put + 20590) × (take p o' ≡ take r.put o₁ ++ ending (note_of m'))
      → Serves m m' buf k last o o' (record { used = r.used; k = r.k; over = true; put = p })
  served-ended o' p z w =
      record {
        used_le = e.used_le;
        whole = λ more h. whole-are more ∙ ap (λ (t : Bool). fields_of (take r.used buf) ++ cond t [] (fields_of (drop r.used buf ++ more))) z;
        does = e.does;
        lines = w.1 ∙ ap (λ (l : List ℕ). l ++ ending (note_of m')) e.lines;
        put-le = omega (arith, w.0, e.room);
        starves = λ q. absurd (false≢true (sym q));
      }

  pub starved : r.ended ≡ false → r.used ≡ 0 → 20690 ≤ length o → Starved buf
  starved z u h = short (e.stops z)
    where
      d : drop r.used buf ≡ buf
      d = ap (λ (n : ℕ). drop n buf) u

      short : Starved (drop r.used buf) ⊎ (length o < r.put + 20690) → Starved buf
      short (inl w) = (ap is_whole (sym d) ∙ w.0, omega (arith, w.1, ap length d))
      short (inr l) = absurd (omega (arith, e.each-le, u, h))

  pub served-last : (o' : List ℕ) (q : Served) → well_formed m ≡ true → is_whole buf ≡ false → r.used ≡ 0 → last ≡ true → Finishes m' buf r.k o₁ o' r.put q → Serves m m' buf k last o o' q
  served-last o' q ok w u l f =
      let none : fields_of (take r.used buf) ≡ [] = ap (λ (n : ℕ). fields_of (take n buf)) u ∙ fields-none [] refl in
      let all : take q.used buf ≡ buf = ap (λ (n : ℕ). take n buf) f.used ∙ take-length buf in
      let same : m' ≡ m = subst (λ (fs : List (Outcome Call)). Played m fs m') none e.does.played in
      let first : r.k ≡ k = omega (arith, e.does.count, ap length none) in
      let before : take r.put o₁ ≡ [] = e.lines ∙ ap (λ (n : ℕ). lines_of m k (take n buf)) u ∙ lines-nil m [] k refl in
      record {
        used_le = omega (arith, f.used);
        whole = λ more h. ap (λ (x : List ℕ). fields_of (buf ++ x)) (h l) ∙ ap fields_of (append-nil buf ∙ sym all) ∙ sym (append-nil (fields_of (take q.used buf)))
            ∙ ap (λ (t : Bool). fields_of (take q.used buf) ++ cond t [] (fields_of (drop q.used buf ++ more))) (sym f.over);
        does = replays m m' (take q.used buf) k q.k ok
            (subst (λ (x : List ℕ). Played m (fields_of (take q.used buf)) x) (sym same) (subst (λ (x : List ℕ). Played m (fields_of x) m) (sym all) (played-rest m buf k w)))
            (omega (arith, f.count, first, ap (λ (x : List ℕ). length (fields_of x)) all));
        lines = f.lines ∙ ap (λ (x : List ℕ). x ++ (lines_of m' r.k buf ++ ending (note_of m'))) before
            ∙ ap (λ (x : List ℕ). lines_of x r.k buf ++ ending (note_of m')) same
            ∙ ap (λ (n : ℕ). lines_of m n buf ++ ending (note_of m')) first
            ∙ ap (λ (x : List ℕ). lines_of m k x ++ ending (note_of m')) (sym all)
            ∙ ap (λ (t : Bool). lines_of m k (take q.used buf) ++ cond t (ending (note_of m')) []) (sym f.over);
        put-le = omega (arith, f.put-le, e.room);
        starves = λ z. absurd (false≢true (sym z ∙ f.over));
      }

  pub served-on : r.ended ≡ false → 20690 ≤ length o → (r.used ≡ 0 → last ≡ false) → Serves m m' buf k last o o₁ (record { used = r.used; k = r.k; over = false; put = r.put })
  served-on z h n =
      record {
        used_le = e.used_le;
        whole = λ more q. whole-are more ∙ ap (λ (t : Bool). fields_of (take r.used buf) ++ cond t [] (fields_of (drop r.used buf ++ more))) z;
        does = e.does;
        lines = e.lines ∙ sym (append-nil (lines_of m k (take r.used buf)));
        put-le = omega (arith, e.room);
        starves = λ q u. (n u, (starved z u h).1);
      }

-- ── with the buffer ──

pub advances : (m m' b b' o o' : List ℕ) (st : State) (r : Served) (n : ℕ) → st.fill ≤ length b → Serves m m' (take st.fill b) st.k st.last o o' r
    → (n ≡ st.fill - r.used) × (take n b' ≡ take (st.fill - r.used) (drop r.used b)) → Advances m m' b b' st o o' (record { fill = n; k = r.k; last = st.last; over = r.over; put = r.put })
advances m m' b b' o o' st r n h e w =
    let s = take st.fill b in
    let l : length s ≡ st.fill = length-take-le st.fill b h in
    let u : r.used ≡ st.fill - n = omega (arith, w.0, e.used_le) in
    let d : drop r.used s ≡ take n b' = part-is r.used st.fill b ∙ sym w.1 in
    let taken : take r.used s ≡ take (st.fill - n) b = take-take r.used st.fill b (omega (arith, e.used_le)) ∙ ap (λ (i : ℕ). take i b) u in
    record {
      fill-le = omega (arith, w.0);
      rest = w.1 ∙ ap (λ (i : ℕ). take i (drop r.used b)) (sym w.0) ∙ ap (λ (i : ℕ). take n (drop i b)) u;
      whole = λ more q. e.whole more q
          ∙ ap (λ (x : List ℕ). fields_of x ++ cond r.over [] (fields_of (drop r.used s ++ more))) taken
          ∙ ap (λ (x : List ℕ). fields_of (take (st.fill - n) b) ++ cond r.over [] (fields_of (x ++ more))) d;
      does = subst (λ (x : List ℕ). Replays m m' x st.k r.k) taken e.does;
      lines = e.lines ∙ ap (λ (x : List ℕ). lines_of m st.k x ++ cond r.over (ending (note_of m')) []) taken;
      put-le = e.put-le;
      same-last = refl;
      starves = λ q f. (
          let z : r.used ≡ 0 = omega (arith, w.0, e.used_le) in
          ((e.starves q z).0, omega (arith, (e.starves q z).1)));
    }

-- ── what refuses a turn ──

module _ (m b o : List ℕ) (st : State) where
  abbrev ruling : Outcome (Unit {0})
  ruling = ruled (turn_rules m b st o) tt

  by : (t u v : Bool) → not (well_formed m) ≡ t → (past st.fill (length b) || past st.k (2 ^ 64 - 1 - st.fill)) ≡ u → past 20690 (length o) ≡ v
      → cond t (refused 2) (cond u (refused 3) (cond v (refused 9) (value tt))) ≡ ruling
  unfolding ruled
  by t u v x y z = sym (cc (x, y, z))

  pub bad-memory : well_formed m ≡ false → refused 2 ≡ ruling
  bad-memory w = by true _ _ (ap not w) refl refl

  module _ (ok : well_formed m ≡ true) where
    pub bad-fill : length b < st.fill → refused 3 ≡ ruling
    bad-fill h = by false true _ (ap not ok) (ap (λ (t : Bool). t || past st.k (2 ^ 64 - 1 - st.fill)) (lt-ltb (length b) st.fill h)) refl

    module _ (f : st.fill ≤ length b) where
      counted : (t : Bool) → past st.k (2 ^ 64 - 1 - st.fill) ≡ t → (past st.fill (length b) || past st.k (2 ^ 64 - 1 - st.fill)) ≡ t
      counted t e = ap (λ (s : Bool). s || past st.k (2 ^ 64 - 1 - st.fill)) (le-ltb (length b) st.fill f) ∙ e

      pub bad-count : 2 ^ 64 - 1 - st.fill < st.k → refused 3 ≡ ruling
      bad-count h = by false true _ (ap not ok) (counted true (lt-ltb (2 ^ 64 - 1 - st.fill) st.k h)) refl

      pub bad-output : st.k ≤ 2 ^ 64 - 1 - st.fill → length o < 20690 → refused 9 ≡ ruling
      bad-output k h = by false false true (ap not ok) (counted false (le-ltb (2 ^ 64 - 1 - st.fill) st.k k)) (lt-ltb (length o) 20690 h)

      pub turn-taken : st.k ≤ 2 ^ 64 - 1 - st.fill → 20690 ≤ length o → value tt ≡ ruling
      turn-taken k h = by false false false (ap not ok) (counted false (le-ltb (2 ^ 64 - 1 - st.fill) st.k k)) (le-ltb (length o) 20690 h)
