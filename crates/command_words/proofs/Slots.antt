-- What the words so far told, thing by thing.
use Rattle.std.proofs.Common.{◌≡◌, ℕ, ◌≤◌, List, [], ◌∷◌, ◌++◌, length, Option, Some, None, refl, sym, ap, ◌∙◌, subst, arith, true}
use Rattle.std.specs.Prelude.{option_to_list, if◌then◌else◌}
use Rattle.std.specs.Option.{option_map, is_some}
use Rattle.std.proofs.lemmas.List.{append-nil}
use Rattle.std.proofs.lemmas.Option.{none-some, same_Some}
use Rattle.command_words.specs.declared.command.Setting.{Setting}
use Rattle.command_words.specs.declared.command.Setting.TheVariants as setting
use Rattle.command_words.specs.declared.seen.Seen.{Seen}
use Rattle.command_words.specs.Words.{same_setting, Told, the_root, the}
use Rattle.command_words.specs.Reading.{once, put, put_root, waits_for}

abbrev pub slot : Told → Seen → Option ℕ
slot the_root seen = seen.root
slot (the setting.Workers) seen = seen.workers
slot (the setting.Lanes) seen = seen.lanes
slot (the setting.Modules) seen = seen.modules
slot (the setting.Generated) seen = seen.generated
slot (the setting.Seed) seen = seen.seed

-- what was told of a thing
abbrev pub given : Told → Seen → List ℕ
given what seen = option_to_list (slot what seen)

-- what a number for a setting tells
abbrev pub number_told : Setting → ℕ → Told → List ℕ
number_told s n the_root = []
number_told s n (the t) = if same_setting t s then n ∷ [] else []

abbrev pub root_told : ℕ → Told → List ℕ
root_told place the_root = place ∷ []
root_told place (the t) = []

abbrev set : Setting → ℕ → Seen → Seen
set setting.Workers n seen = record seen { workers = Some n }
set setting.Lanes n seen = record seen { lanes = Some n }
set setting.Modules n seen = record seen { modules = Some n }
set setting.Generated n seen = record seen { generated = Some n }
set setting.Seed n seen = record seen { seed = Some n }

put_is : (s : Setting) (n : ℕ) (seen : Seen) → put s n seen ≡ option_map (λ m. set s m seen) (once (slot (the s) seen) n)
put_is setting.Workers n seen = refl
put_is setting.Lanes n seen = refl
put_is setting.Modules n seen = refl
put_is setting.Generated n seen = refl
put_is setting.Seed n seen = refl

first : (o : Option ℕ) (n : ℕ) → o ≡ None → n ∷ [] ≡ option_to_list o ++ (n ∷ [])
first o n none = ap (λ p. option_to_list p ++ (n ∷ [])) (sym none)

set_gives : (s : Setting) (n : ℕ) (seen : Seen) → slot (the s) seen ≡ None → (what : Told) → given what (set s n seen) ≡ given what seen ++ number_told s n what
set_gives setting.Workers n seen none (the setting.Workers) = first seen.workers n none
set_gives setting.Lanes n seen none (the setting.Lanes) = first seen.lanes n none
set_gives setting.Modules n seen none (the setting.Modules) = first seen.modules n none
set_gives setting.Generated n seen none (the setting.Generated) = first seen.generated n none
set_gives setting.Seed n seen none (the setting.Seed) = first seen.seed n none
set_gives s n seen none what = sym (append-nil _)

set_waits : (s : Setting) (n : ℕ) (seen : Seen) → (set s n seen).waiting ≡ seen.waiting
set_waits setting.Workers n seen = refl
set_waits setting.Lanes n seen = refl
set_waits setting.Modules n seen = refl
set_waits setting.Generated n seen = refl
set_waits setting.Seed n seen = refl

-- one thing more was told
pub record Puts (told : Told → List ℕ) (seen after : Seen) : Type 0 where
  pub waits : after.waiting ≡ seen.waiting
  pub gives : (what : Told) → given what after ≡ given what seen ++ told what

at_most_one : (o : Option ℕ) (n : ℕ) (more : List ℕ) → length (option_to_list o ++ (n ∷ more)) ≤ 1 → o ≡ None
at_most_one None n more few = refl
at_most_one (Some m) n more few = absurd (omega (arith, few))

-- ---- a number

put_at : (s : Setting) (n : ℕ) (seen after : Seen) (o : Option ℕ) → slot (the s) seen ≡ o → option_map (λ m. set s m seen) (once o n) ≡ Some after → Puts (number_told s n) seen after
put_at s n seen after None none is =
    let same = same_Some (set s n seen) after is in
    subst (Puts (number_told s n) seen) same (record { waits = set_waits s n seen; gives = set_gives s n seen none })
put_at s n seen after (Some m) some is = absurd (none-some after is)

pub put_tells : (s : Setting) (n : ℕ) (seen after : Seen) → put s n seen ≡ Some after → Puts (number_told s n) seen after
put_tells s n seen after is = put_at s n seen after (slot (the s) seen) refl (sym (put_is s n seen) ∙ is)

same_self : (s : Setting) → same_setting s s ≡ true
same_self setting.Workers = refl
same_self setting.Lanes = refl
same_self setting.Modules = refl
same_self setting.Generated = refl
same_self setting.Seed = refl

pub can_put : (s : Setting) (n : ℕ) (seen : Seen) (more : List ℕ) → length (given (the s) seen ++ (number_told s n (the s) ++ more)) ≤ 1 → (after : Seen) × (put s n seen ≡ Some after)
can_put s n seen more few =
    let here : (number_told s n (the s) ++ more) ≡ n ∷ more = ap (λ b. (if b then n ∷ [] else []) ++ more) (same_self s) in
    let none = at_most_one (slot (the s) seen) n more (subst (λ l. length (given (the s) seen ++ l) ≤ 1) here few) in
    (set s n seen, put_is s n seen ∙ ap (λ o. option_map (λ m. set s m seen) (once o n)) none)

-- ---- the folder's word

root_gives : (place : ℕ) (seen : Seen) → seen.root ≡ None → (what : Told) → given what (record seen { root = Some place }) ≡ given what seen ++ root_told place what
root_gives place seen none the_root = first seen.root place none
root_gives place seen none (the setting.Workers) = sym (append-nil _)
root_gives place seen none (the setting.Lanes) = sym (append-nil _)
root_gives place seen none (the setting.Modules) = sym (append-nil _)
root_gives place seen none (the setting.Generated) = sym (append-nil _)
root_gives place seen none (the setting.Seed) = sym (append-nil _)

put_root_at : (place : ℕ) (seen after : Seen) (o : Option ℕ) → seen.root ≡ o → put_root place seen ≡ Some after → Puts (root_told place) seen after
put_root_at place seen after None none is =
    let made : put_root place seen ≡ Some (record seen { root = Some place }) = ap (λ o. if is_some o then None else Some (record seen { root = Some place })) none in
    let same = same_Some (record seen { root = Some place }) after (sym made ∙ is) in
    subst (Puts (root_told place) seen) same (record { waits = refl; gives = root_gives place seen none })
put_root_at place seen after (Some m) some is =
    let made : put_root place seen ≡ None = ap (λ o. if is_some o then None else Some (record seen { root = Some place })) some in
    absurd (none-some after (sym made ∙ is))

pub put_root_tells : (place : ℕ) (seen after : Seen) → put_root place seen ≡ Some after → Puts (root_told place) seen after
put_root_tells place seen after is = put_root_at place seen after seen.root refl is

pub can_put_root : (place : ℕ) (seen : Seen) (more : List ℕ) → length (given the_root seen ++ (place ∷ more)) ≤ 1 → (after : Seen) × (put_root place seen ≡ Some after)
can_put_root place seen more few =
    let none = at_most_one seen.root place more few in
    (record seen { root = Some place }, ap (λ o. if is_some o then None else Some (record seen { root = Some place })) none)

-- ---- waiting tells nothing

pub waits_gives : (waiting : Option Setting) (seen : Seen) (what : Told) → given what (waits_for waiting seen) ≡ given what seen
waits_gives waiting seen the_root = refl
waits_gives waiting seen (the setting.Workers) = refl
waits_gives waiting seen (the setting.Lanes) = refl
waits_gives waiting seen (the setting.Modules) = refl
waits_gives waiting seen (the setting.Generated) = refl
waits_gives waiting seen (the setting.Seed) = refl
