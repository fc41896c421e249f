-- Which module a module imports, draw by draw.
use Rattle.std.proofs.Common.{◌≡◌, ℕ, suc, ◌<◌, ◌+◌, ◌-◌, List, [], ◌∷◌, ◌++◌, map, length, get_or, refl, sym, ap, ◌∙◌, subst, arith}
use Rattle.std.specs.List.{range_with_len}
use Rattle.std.proofs.lemmas.List.FromFn.{map-range_with_len_more, get_or-map-range_with_len, length-map-range_with_len}
use Rattle.flow_values.specs.Path.{Bytes}
use Rattle.generator.specs.Draws.{behind, drawn, state_behind, imported, edited}
use Rattle.generator.specs.Modules.{path_of, text_of, module_in}

pub first_import : (seed : ℕ) → (0 ∷ []) ≡ map (imported seed) (range_with_len 0 1)
first_import seed = refl

pub next_state : (seed i before now : ℕ) → 0 < i → before ≡ state_behind seed (i - 1) → now ≡ behind before → now ≡ state_behind seed (i + 1 - 1)
next_state seed i before now some so_far is = let e : suc (i - 1) ≡ i + 1 - 1 = omega (arith, some) in is ∙ ap behind so_far ∙ ap (state_behind seed) e

import_behind : (seed j : ℕ) → imported seed (suc j) ≡ drawn (suc j) (state_behind seed (suc j))
import_behind seed j = refl

pub next_import : (seed i state d : ℕ) (imports after : List ℕ) → 0 < i → state ≡ state_behind seed (i + 1 - 1) → d ≡ drawn i state → imports ≡ map (imported seed) (range_with_len 0 i)
    → after ≡ imports ++ (d ∷ []) → after ≡ map (imported seed) (range_with_len 0 (i + 1))
next_import seed i state d imports after some at is so_far put =
    let e : suc (i - 1) ≡ i = omega (arith, some) in
    let here : i + 1 - 1 ≡ i = omega arith in
    let import : imported seed i ≡ drawn i (state_behind seed i) = subst (λ m. imported seed m ≡ drawn m (state_behind seed m)) e (import_behind seed (i - 1)) in
    let drew : d ≡ imported seed i = is ∙ ap (drawn i) (at ∙ ap (state_behind seed) here) ∙ sym import in
    put ∙ (λ k. so_far k ++ (drew k ∷ [])) ∙ sym (map-range_with_len_more (imported seed) 0 i i (omega arith))

-- the draws of the rounds come behind those of the imports
pub next_round : (n seed round before now : ℕ) → 0 < round → before ≡ state_behind seed (n - 1 + (round - 1)) → now ≡ behind before → now ≡ state_behind seed (n - 1 + round)
next_round n seed round before now some so_far is = let e : suc (n - 1 + (round - 1)) ≡ n - 1 + round = omega (arith, some) in is ∙ ap behind so_far ∙ ap (state_behind seed) e

pub after_round : (n seed round state : ℕ) → state ≡ state_behind seed (n - 1 + round) → state ≡ state_behind seed (n - 1 + (round + 1 - 1))
after_round n seed round state is = let e : n - 1 + round ≡ n - 1 + (round + 1 - 1) = omega arith in is ∙ ap (state_behind seed) e

pub next_edit : {X : Type 0} (f : ℕ → X) (round : ℕ) (all after : List X) (x : X) → 0 < round → all ≡ map f (range_with_len 1 (round - 1)) → x ≡ f round → after ≡ all ++ (x ∷ []) → after ≡ map f (range_with_len 1 (round + 1 - 1))
next_edit f round all after x some so_far is put =
    let e : round - 1 + 1 ≡ round + 1 - 1 = omega (arith, some) in
    put ∙ (λ k. so_far k ++ (is k ∷ [])) ∙ sym (map-range_with_len_more f 1 (round - 1) round (omega (arith, some))) ∙ ap (λ (n : ℕ). map f (range_with_len 1 n)) e

pub import_at : (seed n i : ℕ) (imports : List ℕ) → imports ≡ map (imported seed) (range_with_len 0 n) → i < n → get_or imports i 0 ≡ imported seed i
import_at seed n i imports is within = ap (λ l. get_or l i 0) is ∙ get_or-map-range_with_len (imported seed) 0 n i i 0 within (omega arith)

pub imports_count : (seed n : ℕ) (imports : List ℕ) → imports ≡ map (imported seed) (range_with_len 0 n) → length imports ≡ n
imports_count seed n imports is = ap length is ∙ length-map-range_with_len (imported seed) 0 n

pub one_more : {X : Type 0} (f : ℕ → X) (i : ℕ) (all after : List X) (x : X) → all ≡ map f (range_with_len 0 i) → x ≡ f i → after ≡ all ++ (x ∷ []) → after ≡ map f (range_with_len 0 (i + 1))
one_more f i all after x so_far is put = put ∙ (λ k. so_far k ++ (is k ∷ [])) ∙ sym (map-range_with_len_more f 0 i i (omega arith))

-- a module with the path and the text of its number
pub module_is : (seed i round import : ℕ) (path text : Bytes) → path ≡ path_of i → text ≡ text_of i import round → import ≡ imported seed i → ◌≡◌ {A = Bytes × Bytes} (path, text) (module_in seed i round)
module_is seed i round import path text at says is = λ k. (at k, (says ∙ ap (λ j. text_of i j round) is) k)

-- the ten rounds are over
pub ended : {X : Type 0} (f : ℕ → X) (round : ℕ) (all result : List X) → result ≡ all → all ≡ map f (range_with_len 1 (round - 1)) → round ≡ 11 → result ≡ map f (range_with_len 1 10)
ended f round all result is so_far last = is ∙ so_far ∙ ap (λ (n : ℕ). map f (range_with_len 1 (n - 1))) last

pub module_there : (seed n round i : ℕ) (row : Bytes × Bytes) → i ≡ edited n seed round → row ≡ module_in seed i round → row ≡ module_in seed (edited n seed round) round
module_there seed n round i row is at = at ∙ ap (λ (j : ℕ). module_in seed j round) is

pub drawn_there : (n seed round state i : ℕ) → i ≡ drawn n state → state ≡ state_behind seed (n - 1 + round) → i ≡ edited n seed round
drawn_there n seed round state i is at = is ∙ ap (drawn n) at
