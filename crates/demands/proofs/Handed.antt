-- Demand 2 of what hands out text: copies, the runs of `runs::run` and of a reader, and previews. The hypotheses are what these functions and their
-- companions promise. Where a run and a preview end is settled by the leaves, so it is runs and previews joined that the plain note settles, and
-- what one of them begins with.
use Rattle.answer.specs.Answers.{Answer, outcome}
use mathlib.Core.Path.{◌≡◌, refl, sym, ap, subst, ◌∙◌}
use mathlib.Core.List.{List, [], ◌∷◌}
use Prim.Native.Nat.{ℕ}
use lib.ListN.{length, take, drop}
use lib.Seq.{take_at}
use denote.Ref.{Bor}
use Rattle.plain.specs.Utf8.{decode}
use Rattle.plain.specs.Edit.{put_in}
use Rattle.plain.specs.Outcome.{Outcome, Outcome.value, Outcome.refused, part, mapped}
use Rattle.plain_note.specs.Note.{Note, copied, read_from, previewed}
use Rattle.plain_calls.specs.Calls.{Call, Call.look, Look.copy, Look.read, Look.preview, Said, Said.bytes, looking, after_all}
use Rattle.leaf_bytes.specs.Leaf.{Leaf}
use Rattle.memory.specs.Formed.{note_of, of_note}
use Rattle.memory.proofs.Formed.{note-called}
use Rattle.leaf_parts.specs.Front.{FrontChars}
use Rattle.runs.specs.Runs.{run_of, preview_of}
use Rattle.runs.proofs.Says.{read-says}
use Rattle.runs.proofs.Fronts.{PreviewFront, run-front, preview-front}
use Rattle.reader.specs.declared.Reader.{Reader}
use Rattle.reader.specs.Handed.{pool_at, run_at, behind_of, InTurn, Runs, joined}
use Rattle.reader.proofs.InTurn.{taken-joined, runs_taken, previews-taken}
use Rattle.reader.proofs.Joined.{runs-one, reader-reads}
use Rattle.demands.specs.Steps.{Step, calls_of}
use Rattle.demands.specs.Handed.{HandedOut, NextIs, ReadOut}
use Rattle.demands.proofs.Bridge.{look-steps, of-read}
use Rattle.demands.proofs.Demand2.{Followed}

-- ── what a caller has in hand, as one outcome ──

-- the first bytes of the output, as many as the call answers
copy_told : (o : Outcome (List ℕ)) (out : List ℕ) (r : Answer ℕ) (after : List ℕ) → Leaf o out r after → mapped (λ n. take n after) (outcome r) ≡ o
copy_told (value t) out r after w =
    ap (mapped (λ n. take n after)) w.answered ∙ ap (λ (l : List ℕ). value (take (length t) l)) w.region ∙ ap value (take_at t (drop (length t) out) (length t) refl)
copy_told (refused n) out r after w = ap (mapped (λ n. take n after)) w.answered

-- a text that was handed out, by what the companion says
part-told : (o : Outcome (List ℕ)) (v : Answer (Unit {0})) (t : List ℕ) → HandedOut o v t → mapped (λ u. t) (outcome v) ≡ o
part-told (value a) v t h = ap (mapped (λ u. t)) h.said ∙ ap value h.is
part-told (refused n) v t h = ap (mapped (λ u. t)) h.said

-- a reader's runs
read-runs : (r : Reader) (ss : List (List ℕ)) → ReadOut r ss → Runs r.pool.now r.place ss
read-runs r [] h = h
read-runs r (s ∷ ss) h =
    let q = h.2 in
    let b : NextIs r q = h.3 in
    let e : InTurn (run_at q.pool.now) q.place ss = read-runs q ss h.4 in
    (h.0, h.1, subst (λ (x : Bor (List ℕ)). InTurn (run_at x.now) (behind_of r.pool.now r.place) ss) b.0 (subst (λ (k : ℕ). InTurn (run_at q.pool.now) k ss) b.1 e))

reader-joined : (m : List ℕ) (p : ℕ) (r : Reader) (ss : List (List ℕ)) → (r.pool.now ≡ pool_at m p) × (r.place ≡ p) → ReadOut r ss
    → joined ss ≡ part (of_note m (λ N. read_from N p))
reader-joined m p r ss made h =
    let all = reader-reads m p in
    let e : Runs (pool_at m p) p ss = subst (λ (l : List ℕ). Runs l p ss) made.0 (subst (λ (k : ℕ). Runs r.pool.now k ss) made.1 (read-runs r ss h)) in
    ap joined (runs-one (pool_at m p) p ss all.runs e all.handed) ∙ all.whole

-- such runs and previews are there, on any memory and any place: of `runs::run` and `runs::preview` by `runs_taken` and `previews-taken`, and of a reader
pub reader-taken : (m : List ℕ) (p : ℕ) (r : Reader) → (r.pool.now ≡ pool_at m p) × (r.place ≡ p) → (ss : List (List ℕ)) × ReadOut r ss
reader-taken m p r made =
    let all = reader-reads m p in
    (all.runs, runs-read r all.runs (subst (λ (l : List ℕ). Runs l r.place all.runs) (sym made.0) (subst (λ (k : ℕ). Runs (pool_at m p) k all.runs) (sym made.1) all.handed)))
  where
    runs-read : (r : Reader) (ss : List (List ℕ)) → Runs r.pool.now r.place ss → ReadOut r ss
    runs-read r [] h = h
    runs-read r (s ∷ ss) h =
        let q : Reader = record { pool = r.pool; place = behind_of r.pool.now r.place } in
        (h.0, h.1, q, (refl, refl), runs-read q ss h.2)

runs-joined : (m : List ℕ) (p : ℕ) (rs : List (List ℕ)) → InTurn (run_of m) p rs → joined rs ≡ part (of_note m (λ N. read_from N p))
runs-joined m p rs h = taken-joined (run_of m) p (of_note m (λ N. read_from N p)) (runs_taken m p) rs h

previews-joined : (m : List ℕ) (p : ℕ) (piece : List ℕ) (q : ℕ) (ts : List (List ℕ)) → InTurn (preview_of m p piece) q ts
    → joined ts ≡ part (of_note m (λ N. previewed N p piece q))
previews-joined m p piece q ts h = taken-joined (preview_of m p piece) q (of_note m (λ N. previewed N p piece q)) (previews-taken m p piece q) ts h

-- ── each is a step of a sequence ──

module _ (m : List ℕ) where
  pub copy-steps : (s e : ℕ) (out : List ℕ) (r : Answer ℕ) (after : List ℕ) → Leaf (of_note m (λ N. copied N s e (length out))) out r after
      → Step (look (copy s e (length out))) m (mapped bytes (mapped (λ n. take n after) (outcome r))) m
  unfolding looking
  copy-steps s e out r after w =
      let a = mapped (λ n. take n after) (outcome r) in
      look-steps m (copy s e (length out)) (mapped bytes a)
      (of-read m bytes (copy s e (length out)) (λ N. copied N s e (length out)) (λ N. refl) a (copy_told (of_note m (λ N. copied N s e (length out))) out r after w))

  module _ (p : ℕ) (v : Answer (Unit {0})) (companion : outcome v ≡ mapped (λ t. tt) (of_note m (λ N. read_from N p))) where
    read-steps : (t : List ℕ) → t ≡ part (of_note m (λ N. read_from N p)) → Step (look (read p)) m (mapped bytes (mapped (λ u. t) (outcome v))) m
    unfolding looking
    read-steps t e =
        let a = mapped (λ u. t) (outcome v) in
        look-steps m (read p) (mapped bytes a)
        (of-read m bytes (read p) (λ N. read_from N p) (λ N. refl) a (part-told (of_note m (λ N. read_from N p)) v t (record { said = companion; is = e })))

    pub runs-steps : (rs : List (List ℕ)) → InTurn (run_of m) p rs → Step (look (read p)) m (mapped bytes (mapped (λ u. joined rs) (outcome v))) m
    runs-steps rs h = read-steps (joined rs) (runs-joined m p rs h)

    pub reader-steps : (r : Reader) (ss : List (List ℕ)) → (r.pool.now ≡ pool_at m p) × (r.place ≡ p) → ReadOut r ss
        → Step (look (read p)) m (mapped bytes (mapped (λ u. joined ss) (outcome v))) m
    reader-steps r ss made h = read-steps (joined ss) (reader-joined m p r ss made h)

  pub previews-steps : (p : ℕ) (piece : List ℕ) (q : ℕ) (v : Answer (Unit {0})) → outcome v ≡ mapped (λ t. tt) (of_note m (λ N. previewed N p piece q))
      → (ts : List (List ℕ)) → InTurn (preview_of m p piece) q ts → Step (look (preview p piece q)) m (mapped bytes (mapped (λ u. joined ts) (outcome v))) m
  unfolding looking
  previews-steps p piece q v companion ts h =
      let a = mapped (λ u. joined ts) (outcome v) in
      look-steps m (preview p piece q) (mapped bytes a)
      (of-read m bytes (preview p piece q) (λ N. previewed N p piece q) (λ N. refl) a
      (part-told (of_note m (λ N. previewed N p piece q)) v (joined ts) (record { said = companion; is = previews-joined m p piece q ts h })))

-- ── asked after any sequence ──

module _ (start : Note) (hs : List (Call × Outcome Said)) (m : List ℕ) (f : Followed start hs m) where
  -- the plain note then
  abbrev N : Note
  N = after_all start (calls_of hs)

  comes-to : {A : Type 0} (o : Note → Outcome A) → of_note m o ≡ o N
  comes-to o = note-called m o f.formed ∙ ap o f.note

  handed : (o : Note → Outcome (List ℕ)) (v : Answer (Unit {0})) (t : List ℕ) → outcome v ≡ mapped (λ x. tt) (of_note m o) → t ≡ part (of_note m o) → HandedOut (o N) v t
  handed o v t e g = record { said = e ∙ ap (mapped (λ x. tt)) (comes-to o); is = g ∙ ap part (comes-to o) }

  -- DEMAND 2: what `copy_out::copy_out` answers and writes
  pub copy-counted : (s e : ℕ) (out : List ℕ) (r : Answer ℕ) (after : List ℕ) → Leaf (of_note m (λ M. copied M s e (length out))) out r after
      → Leaf (copied (after_all start (calls_of hs)) s e (length out)) out r after
  copy-counted s e out r after w = subst (λ (o : Outcome (List ℕ)). Leaf o out r after) (comes-to (λ M. copied M s e (length out))) w

  module _ (p : ℕ) (v : Answer (Unit {0})) (companion : outcome v ≡ mapped (λ t. tt) (of_note m (λ M. read_from M p))) where
    -- DEMAND 2: the runs of `runs::run` joined, with the word of `runs::run_refusal`
    pub runs-counted : (rs : List (List ℕ)) → InTurn (run_of m) p rs → HandedOut (read_from (after_all start (calls_of hs)) p) v (joined rs)
    runs-counted rs h = handed (λ M. read_from M p) v (joined rs) companion (runs-joined m p rs h)

    -- DEMAND 2: the runs of a reader of `reader::reader_at` joined, with the word of `reader::reader_refusal`
    pub reader-counted : (r : Reader) (ss : List (List ℕ)) → (r.pool.now ≡ pool_at m p) × (r.place ≡ p) → ReadOut r ss
        → HandedOut (read_from (after_all start (calls_of hs)) p) v (joined ss)
    reader-counted r ss made h = handed (λ M. read_from M p) v (joined ss) companion (reader-joined m p r ss made h)

  -- DEMAND 2: the previews of one insertion joined, of `runs::preview` with the word of `runs::preview_refusal`
  pub previews-counted : (p : ℕ) (piece : List ℕ) (q : ℕ) (v : Answer (Unit {0})) → outcome v ≡ mapped (λ t. tt) (of_note m (λ M. previewed M p piece q))
      → (ts : List (List ℕ)) → InTurn (preview_of m p piece) q ts → HandedOut (previewed (after_all start (calls_of hs)) p piece q) v (joined ts)
  previews-counted p piece q v companion ts h = handed (λ M. previewed M p piece q) v (joined ts) companion (previews-joined m p piece q ts h)

  -- DEMAND 2: what one run begins with, and one preview, where they are accepted
  pub run-begins : (p : ℕ) (t x : List ℕ) → t ≡ run_of m p → read_from (after_all start (calls_of hs)) p ≡ value x
      → FrontChars (after_all start (calls_of hs)).text p t
  run-begins p t x e a =
      let a' = ap (λ (M : Note). read_from M p) f.note ∙ a in
      subst (λ (M : Note). FrontChars M.text p t) f.note
      (subst (λ (l : List ℕ). FrontChars (note_of m).text p l) (sym e) (run-front m f.formed p (read-says (note_of m) p x a').0))

  pub preview-begins : (p : ℕ) (piece : List ℕ) (q : ℕ) (t x : List ℕ) → t ≡ preview_of m p piece q → previewed (after_all start (calls_of hs)) p piece q ≡ value x
      → PreviewFront (put_in p (decode piece) (after_all start (calls_of hs)).text) p q t
  preview-begins p piece q t x e a =
      let a' = ap (λ (M : Note). previewed M p piece q) f.note ∙ a in
      subst (λ (M : Note). PreviewFront (put_in p (decode piece) M.text) p q t) f.note
      (subst (λ (l : List ℕ). PreviewFront (put_in p (decode piece) (note_of m).text) p q l) (sym e) (preview-front m f.formed p piece q x a'))
