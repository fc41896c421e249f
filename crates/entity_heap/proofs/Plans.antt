-- The writer's plan after each of its steps is lawful.
use Rattle.std.proofs.Common.{◌≡◌, ◌≢◌, ℕ, zero, suc, ◌+◌, ◌-◌, ◌*◌, ◌/◌, ◌%◌, ◌<◌, ◌≤◌, Bool, true, false, List, [], ◌∷◌, length, set, get_or, slice_get, refl, sym, ap, ◌∙◌, subst, ⊎_elim, arith, Option, Some, length-set, length-append, get_or-set_same, get_or-set_other}
use Rattle.std.proofs.lemmas.List.{length-map}
use mathlib.Core.Logic.{dite}
use native.Mathlib.Decide.{ℕ_discrete, dec_le}
use Rattle.heap_core.specs.Meaning.{AllFit}
use Rattle.entity_heap.specs.declared.board.Entry.{Entry}
use Rattle.entity_heap.specs.declared.board.Reach.{Reach}
use Rattle.entity_heap.specs.declared.board.Fill.{Fill}
use Rattle.entity_heap.specs.declared.board.Plan.{Plan}
use Rattle.entity_heap.specs.Rule.{pick, word_for, is_staged, old_word, IsRead, Lawful}
use Rattle.entity_heap.specs.Plans.{new_words, restored, after_commit, staging, rolling}
use Rattle.entity_heap.proofs.Lists.{same_some, not_both, false_before, true_where, at_more, get_last, get_short, set-get_else, none_true}
use Rattle.entity_heap.proofs.Spots.{pick_early, pick_late}

-- the word of an entity after a commit
pub new_word : (c : ℕ) (bs : List Bool) (ws : List ℕ) (e : ℕ) → length bs ≡ length ws → get_or (new_words c bs ws) e 0 ≡ word_for c (get_or bs e false) (get_or ws e 0)
new_word c [] [] e same = refl
new_word c [] (w ∷ ws) e same = absurd (omega arith)
new_word c (b ∷ bs) [] e same = absurd (omega arith)
new_word c (b ∷ bs) (w ∷ ws) zero same = refl
new_word c (b ∷ bs) (w ∷ ws) (suc e) same = new_word c bs ws e (omega arith)

pub length-new_words : (c : ℕ) (bs : List Bool) (ws : List ℕ) → length (new_words c bs ws) ≡ length ws
length-new_words c [] ws = refl
length-new_words c (b ∷ bs) [] = refl
length-new_words c (b ∷ bs) (w ∷ ws) = ap suc (length-new_words c bs ws)

module _ {A : Type 0} where
  pub restored_here : (cs xs : List A) (e : ℕ) → length cs ≡ length xs → slice_get (restored cs xs e) e ≡ slice_get cs e
  restored_here [] [] e same = refl
  restored_here [] (x ∷ xs) e same = absurd (omega arith)
  restored_here (c ∷ cs) [] e same = absurd (omega arith)
  restored_here (c ∷ cs) (x ∷ xs) zero same = refl
  restored_here (c ∷ cs) (x ∷ xs) (suc e) same = restored_here cs xs e (omega arith)

  pub restored_else : (cs xs : List A) (e n : ℕ) → n ≢ e → slice_get (restored cs xs e) n ≡ slice_get xs n
  restored_else [] xs e n ne = refl
  restored_else (c ∷ cs) [] e n ne = refl
  restored_else (c ∷ cs) (x ∷ xs) zero zero ne = absurd (ne refl)
  restored_else (c ∷ cs) (x ∷ xs) zero (suc n) ne = refl
  restored_else (c ∷ cs) (x ∷ xs) (suc e) zero ne = refl
  restored_else (c ∷ cs) (x ∷ xs) (suc e) (suc n) ne = restored_else cs xs e n (λ w. ne (ap suc w))

  pub length-restored : (cs xs : List A) (e : ℕ) → length (restored cs xs e) ≡ length xs
  length-restored [] xs e = refl
  length-restored (c ∷ cs) [] e = refl
  length-restored (c ∷ cs) (x ∷ xs) zero = refl
  length-restored (c ∷ cs) (x ∷ xs) (suc e) = ap suc (length-restored cs xs e)

-- the word's two halves
pub old_for : (c o : ℕ) (b : Bool) → o / 2 ≤ c → word_for c b o / 2 ≤ c + 1
old_for c o true h = omega arith
old_for c o false h = omega arith

pub pick_for : (c o w : ℕ) (b : Bool) → w ≡ word_for c b o → o / 2 ≤ c → pick w c ≡ o % 2
pick_for c o w true is h = let k = pick_late w c (omega arith) in let p : ℕ = pick w c in let k' : p ≡ 1 - w % 2 = k in omega arith
pick_for c o w false is h = let k = pick_early w c (omega arith) in let p : ℕ = pick w c in let k' : p ≡ w % 2 = k in omega arith

module _ {P : Type 0} (fits : ℕ → P → ℕ → P → Type 0) where
  -- readers at the current version are sent to the slot of the last commit
  pub pick_now : (q : Plan P) (w e : ℕ) → Lawful fits q → w ≡ word_for q.version (is_staged q e) (old_word q e) → pick w q.version ≡ old_word q e % 2
  pick_now q w e l is = pick_for q.version (old_word q e) w (is_staged q e) is (l.old e)

  -- what is staged is staged after the reset
  pub reset_if : (q : Plan P) (e : ℕ) → Lawful fits q → is_staged q e ≡ true → q.reset ≡ true
  reset_if q e l up = true_where q.reset (is_staged q e) (λ off. l.fresh off e) up

  -- two versions whose readers are sent to one slot have one payload there
  pub alike : (q : Plan P) (w : ℕ) (e v v' : ℕ) (st st' : List P) → Lawful fits q → (q.reset ≡ true → q.drained ≡ true) → w ≡ word_for q.version (is_staged q e) (old_word q e)
      → e < q.entities → IsRead q v → IsRead q v' → slice_get q.history v ≡ Some st → slice_get q.history v' ≡ Some st' → pick w v ≡ pick w v' → slice_get st e ≡ slice_get st' e
  alike q w e v v' st st' l settle is inside a b g h same = ⊎_elim
      (λ (at : v ≡ q.version). ⊎_elim
      (λ (at' : v' ≡ q.version). one v v' st st' (at ∙ sym at') g h)
      (λ (t : (v' + 1 ≡ q.version) × (q.drained ≡ false)). mixed v v' st st' at t.0 t.1 g h same) b)
      (λ (t : (v + 1 ≡ q.version) × (q.drained ≡ false)). ⊎_elim
      (λ (at' : v' ≡ q.version). sym (mixed v' v st' st at' t.0 t.1 h g (sym same)))
      (λ (t' : (v' + 1 ≡ q.version) × (q.drained ≡ false)). let u = t.0 in let u' = t'.0 in one v v' st st' (omega arith) g h) b) a
    where
      one : (v v' : ℕ) (st st' : List P) → v ≡ v' → slice_get q.history v ≡ Some st → slice_get q.history v' ≡ Some st' → slice_get st e ≡ slice_get st' e
      one v v' st st' vv g h = ap (λ (xs : List P). slice_get xs e) (same_some (slice_get q.history v) st st' g (ap (slice_get q.history) vv ∙ h))

      low : q.drained ≡ false → w ≡ old_word q e
      low off = is ∙ ap (λ (b : Bool). word_for q.version b (old_word q e)) (l.fresh (false_before q.reset q.drained settle off) e)

      mixed : (v v' : ℕ) (st st' : List P) → v ≡ q.version → v' + 1 ≡ q.version → q.drained ≡ false → slice_get q.history v ≡ Some st → slice_get q.history v' ≡ Some st' → pick w v ≡ pick w v' → slice_get st e ≡ slice_get st' e
      mixed v v' st st' at before off g h same =
          let o : ℕ = old_word q e in let wo : w ≡ o = low off in let up : o / 2 ≤ q.version = l.old e in
          dite (dec_le (o / 2) v')
          (λ early. l.stable e v st inside (omega arith) g ∙ sym (l.stable e v' st' inside early h))
          (λ late. let x = pick_early w v (omega arith) in let y = pick_late w v' (omega arith) in let p : ℕ = pick w v in let x' : p ≡ w % 2 = x in let y' : p ≡ 1 - w % 2 = same ∙ y in absurd (omega arith))

  pub lawful_commit : (n : ℕ) (q : Plan P) → Lawful fits q → AllFit fits q.next → Lawful fits (after_commit n q)
  lawful_commit n q l fit = record {
    lengths = (l.lengths.0, length-new_words q.version q.staged q.words ∙ l.lengths.1, length-map q.staged (λ _. false) ∙ l.lengths.2, l.lengths.3);
    states = let a = length-append q.history (q.next ∷ []) in let s = l.states in omega arith;
    fit = λ v st g. ⊎_elim (l.fit v st) (λ (t : (v ≡ length q.history) × (q.next ≡ st)). subst (λ (xs : List P). (length xs ≡ q.entities) × AllFit fits xs) t.1 (l.lengths.0, fit)) (at_more q.history q.next st v g);
    committed = get_last q.history q.next (q.version + 1) l.states;
    old = λ e. let w = word e in let h = old_for q.version (old_word q e) (is_staged q e) (l.old e) in let x : ℕ = old_word (after_commit n q) e in let w' : x ≡ word_for q.version (is_staged q e) (old_word q e) = w in omega arith;
    stable = λ e v st inside late g. ⊎_elim
        (λ (was : slice_get q.history v ≡ Some st).
        let short = get_short q.history v st was in let s = l.states in
        stays e v st (is_staged q e) refl inside (omega arith) late was)
        (λ (t : (v ≡ length q.history) × (q.next ≡ st)). ap (λ (xs : List P). slice_get xs e) (sym t.1)) (at_more q.history q.next st v g);
    unstaged = λ e _. refl;
    fresh = λ _ e. none_true q.staged e;
    first = λ none. absurd (omega arith);
  }
    where
      word : (e : ℕ) → old_word (after_commit n q) e ≡ word_for q.version (is_staged q e) (old_word q e)
      word e = new_word q.version q.staged q.words e (l.lengths.2 ∙ sym l.lengths.1)

      stays : (e v : ℕ) (st : List P) (b : Bool) → is_staged q e ≡ b → e < q.entities → v ≤ q.version → old_word (after_commit n q) e / 2 ≤ v → slice_get q.history v ≡ Some st → slice_get st e ≡ slice_get q.next e
      stays e v st true is inside low late was =
          let w : old_word (after_commit n q) e ≡ word_for q.version true (old_word q e) = word e ∙ ap (λ (b : Bool). word_for q.version b (old_word q e)) is in
          let x : ℕ = old_word (after_commit n q) e in let o : ℕ = old_word q e in let w' : x ≡ 2 * (q.version + 1) + (1 - o % 2) = w in absurd (omega arith)
      stays e v st false is inside low late was =
          let w : old_word (after_commit n q) e ≡ old_word q e = word e ∙ ap (λ (b : Bool). word_for q.version b (old_word q e)) is in
          l.stable e v st inside (subst (λ (k : ℕ). k / 2 ≤ v) w late) was ∙ sym (l.unstaged e is)

  pub lawful_stage : (q : Plan P) (e : ℕ) (x : P) → Lawful fits q → e < q.entities → q.reset ≡ true → Lawful fits (staging q e x)
  lawful_stage q e x l inside ready = record {
    lengths = (length-set q.next e x ∙ l.lengths.0, l.lengths.1, length-set q.staged e true ∙ l.lengths.2, l.lengths.3);
    states = l.states;
    fit = l.fit;
    committed = l.committed;
    old = l.old;
    stable = l.stable;
    unstaged = λ n off. dite (ℕ_discrete n e)
        (λ (i : n ≡ e). not_both (get_or (set q.staged e true) e false) (get_or-set_same q.staged e true false (let k = l.lengths.2 in omega arith)) (ap (λ (k : ℕ). get_or (set q.staged e true) k false) (sym i) ∙ off))
        (λ ne. set-get_else q.next e n x ne ∙ l.unstaged n (sym (get_or-set_other q.staged e n true false ne) ∙ off));
    fresh = λ off. not_both q.reset ready off;
    first = l.first;
  }

  pub lawful_roll : (q : Plan P) (e : ℕ) → Lawful fits q → e < q.entities → Lawful fits (rolling q e)
  lawful_roll q e l inside = record {
    lengths = (length-restored q.committed q.next e ∙ l.lengths.0, l.lengths.1, length-set q.staged e false ∙ l.lengths.2, l.lengths.3);
    states = l.states;
    fit = l.fit;
    committed = l.committed;
    old = l.old;
    stable = l.stable;
    unstaged = λ n off. dite (ℕ_discrete n e)
        (λ (i : n ≡ e). ap (slice_get (restored q.committed q.next e)) i ∙ (restored_here q.committed q.next e ((l.fit q.version q.committed l.committed).0 ∙ sym l.lengths.0) ∙ ap (slice_get q.committed) (sym i)))
        (λ ne. restored_else q.committed q.next e n ne ∙ l.unstaged n (sym (get_or-set_other q.staged e n false false ne) ∙ off));
    fresh = λ off n. dite (ℕ_discrete n e)
        (λ (i : n ≡ e). ap (λ (k : ℕ). get_or (set q.staged e false) k false) i ∙ get_or-set_same q.staged e false false (let k = l.lengths.2 in omega arith))
        (λ ne. get_or-set_other q.staged e n false false ne ∙ l.fresh off n);
    first = l.first;
  }

  -- what else may change
  pub lawful_more : (q : Plan P) (d b : Bool) (o m : ℕ) (ls ms : List ℕ) (es : List (Entry P)) (hand : Option Reach) (fill : Option (Fill P)) → Lawful fits q → (b ≡ false → q.reset ≡ false)
      → Lawful fits (record q { drained = d; reset = b; owed = o; found = ls; made = m; met = ms; heard = es; hand = hand; fill = fill })
  lawful_more q d b o m ls ms es hand fill l still = record {
    lengths = l.lengths;
    states = l.states;
    fit = l.fit;
    committed = l.committed;
    old = l.old;
    stable = l.stable;
    unstaged = l.unstaged;
    fresh = λ off. l.fresh (still off);
    first = λ none. true_where b q.reset still (l.first none);
  }
