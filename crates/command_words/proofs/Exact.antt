-- The walk gives exactly what the words tell.
use Rattle.std.proofs.Common.{◌≡◌, ℕ, ◌≤◌, ◌<◌, ◌^◌, ◌-◌, ◌+◌, List, [], ◌∷◌, ◌++◌, length, map, Option, Some, None, Bool, true, false, refl, sym, ap, ◌∙◌, subst, arith, inl, inr, ◌⊎◌}
use Rattle.std.specs.Prelude.{leb, ◌&&◌, option_and_then, option_map, option_to_list, flat_map, IfSome, IfNone, if◌then◌else◌}
use Rattle.std.specs.Option.{is_some}
use Rattle.std.specs.Int.{IsInRange}
use Rattle.std.proofs.lemmas.Bool.{cases_Bool, false≢true, leb-true, le-leb}
use Rattle.std.proofs.lemmas.List.{length-map}
use Rattle.std.proofs.lemmas.Option.{none-some, same_Some, option_and_then_some}
use Rattle.flow_values.specs.Path.{Bytes}
use Rattle.command_words.specs.declared.command.Command.{Command}
use Rattle.command_words.specs.declared.command.Form.{Form}
use Rattle.command_words.specs.declared.command.Form.TheVariants.{Folder, Generated}
use Rattle.command_words.specs.declared.command.Setting.TheVariants as setting
use Rattle.command_words.specs.declared.seen.Seen.{Seen}
use Rattle.command_words.specs.declared.command.Setting.{Setting}
use Rattle.command_words.specs.Words.{Piece, root, joined, apart, words_of, Told, the_root, the, told_from, IsOr, IsForm, Tells, Says, AreOfCommand, place_in, place_of}
use Rattle.command_words.specs.Reading.{nothing, walk, in_range, ranged, generated_form, form_in, form_of, finish_with, told_in, finish, command_of}
use Rattle.command_words.proofs.Slots.{given}
use Rattle.command_words.proofs.Walks.{reads, walks}

-- ---- numbers in their ranges

both : (a b : Bool) → (a && b) ≡ true → (a ≡ true) × (b ≡ true)
both true true is = (refl, refl)
both true false is = (refl, is)
both false b is = absurd (false≢true is)

in_range_is : (most n k : ℕ) → in_range most n ≡ Some k → (k ≡ n) × IsInRange 1 most k
in_range_is most n k is = elim (cases_Bool (leb 1 n && leb n most)) [
  | inl holds ↦ (
      let same : n ≡ k = same_Some n k (sym (ap (λ b. if b then Some n else None) holds) ∙ is) in
      let parts = both (leb 1 n) (leb n most) holds in
      (sym same, (omega (arith, leb-true 1 n parts.0, same), omega (arith, leb-true n most parts.1, same))))
  | inr fails ↦ absurd (none-some k (sym (ap (λ b. if b then Some n else None) fails) ∙ is))
]

all_true : (a b : Bool) → a ≡ true → b ≡ true → (a && b) ≡ true
all_true a b x y = cc

range_in : (most n : ℕ) → IsInRange 1 most n → in_range most n ≡ Some n
range_in most n is = ap (λ b. if b then Some n else None) (all_true _ _ (le-leb 1 n is.0) (le-leb n most is.1))

ranged_is : (told : Option ℕ) (default most n : ℕ) → 1 ≤ default → default ≤ most → ranged told default most ≡ Some n → IsOr (option_to_list told) default n × IsInRange 1 most n
ranged_is None default most n low high is = let same = same_Some default n is in (sym same, (omega (arith, same), omega (arith, same)))
ranged_is (Some m) default most n low high is = in_range_is most m n is

is_ranged : (told : Option ℕ) (default most n : ℕ) → IsOr (option_to_list told) default n → IsInRange 1 most n → ranged told default most ≡ Some n
is_ranged None default most n is range = ap Some (sym is)
is_ranged (Some m) default most n is range = ap (λ k. in_range most k) (sym is) ∙ range_in most n range

-- ---- forms

generated_is : (most n x : ℕ) (form : Form) → generated_form most n x ≡ Some form → (form ≡ Generated n x) × IsInRange 1 most n × (x < 2 ^ 64)
generated_is most n x form is = elim (cases_Bool (leb 1 n && (leb n most && leb x (2 ^ 64 - 1)))) [
  | inl holds ↦ (
      let parts = both (leb 1 n) (leb n most && leb x (2 ^ 64 - 1)) holds in
      let more = both (leb n most) (leb x (2 ^ 64 - 1)) parts.1 in
      (sym (same_Some (Generated n x) form (sym (ap (λ b. if b then Some (Generated n x) else None) holds) ∙ is)), (leb-true 1 n parts.0, leb-true n most more.0), omega (arith, leb-true x (2 ^ 64 - 1) more.1)))
  | inr fails ↦ absurd (none-some form (sym (ap (λ b. if b then Some (Generated n x) else None) fails) ∙ is))
]

is_generated : (most n x : ℕ) (form : Form) → (form ≡ Generated n x) × IsInRange 1 most n × (x < 2 ^ 64) → generated_form most n x ≡ Some form
is_generated most n x form is =
    ap (λ b. if b then Some (Generated n x) else None) (all_true _ _ (le-leb 1 n is.1.0) (all_true _ _ (le-leb n most is.1.1) (le-leb x (2 ^ 64 - 1) (omega (arith, is.2))))) ∙ ap Some (sym is.0)

form_is : (root n x : Option ℕ) (most : ℕ) (form : Form) → form_in root n x most ≡ Some form → IsForm (option_to_list root) (option_to_list n) (option_to_list x) most form
form_is None None None most form is = absurd (none-some form is)
form_is None None (Some x) most form is = absurd (none-some form is)
form_is None (Some n) None most form is = absurd (none-some form is)
form_is None (Some n) (Some x) most form is = generated_is most n x form is
form_is (Some place) None None most form is = sym (same_Some (Folder place) form is)
form_is (Some place) None (Some x) most form is = absurd (none-some form is)
form_is (Some place) (Some n) None most form is = absurd (none-some form is)
form_is (Some place) (Some n) (Some x) most form is = absurd (none-some form is)

is_form : (root n x : Option ℕ) (most : ℕ) (form : Form) → IsForm (option_to_list root) (option_to_list n) (option_to_list x) most form → form_in root n x most ≡ Some form
is_form None None None most form is = absurd is
is_form None None (Some x) most form is = absurd is
is_form None (Some n) None most form is = absurd is
is_form None (Some n) (Some x) most form is = is_generated most n x form is
is_form (Some place) None None most form is = ap Some (sym is)
is_form (Some place) None (Some x) most form is = absurd is
is_form (Some place) (Some n) None most form is = absurd is
is_form (Some place) (Some n) (Some x) most form is = absurd is

-- ---- all that was told

abbrev all_given : Seen → Told → List ℕ
all_given seen = λ what. given what seen

made : (seen : Seen) (workers lanes modules : ℕ) (c : Command) (form : Option Form) → ranged seen.workers 4 64 ≡ Some workers → ranged seen.lanes 2 16 ≡ Some lanes → ranged seen.modules 1024 4096 ≡ Some modules
    → form_of seen modules ≡ form → option_map (λ f. record { form = f; workers = workers; lanes = lanes; modules = modules }) form ≡ Some c → Tells (all_given seen) c
made seen workers lanes modules c None w l m f is = absurd (none-some c is)
made seen workers lanes modules c (Some form) w l m f is =
    let whole : Command = record { form = form; workers = workers; lanes = lanes; modules = modules } in
    let w_is = ranged_is seen.workers 4 64 workers (omega arith) (omega arith) w in
    let l_is = ranged_is seen.lanes 2 16 lanes (omega arith) (omega arith) l in
    let m_is = ranged_is seen.modules 1024 4096 modules (omega arith) (omega arith) m in
    subst (Tells (all_given seen)) (same_Some whole c is) (record {
      workers = w_is.0;
      some_workers = w_is.1;
      lanes = l_is.0;
      some_lanes = l_is.1;
      modules = m_is.0;
      some_modules = m_is.1;
      form = form_is seen.root seen.generated seen.seed modules form f;
    })

tells_in : (seen : Seen) (c : Command) → told_in seen ≡ Some c → Tells (all_given seen) c
tells_in seen c is =
    option_and_then_some (λ workers. option_and_then (λ lanes. option_and_then (finish_with seen workers lanes) (ranged seen.modules 1024 4096)) (ranged seen.lanes 2 16)) (ranged seen.workers 4 64) c is (λ workers w rest.
    option_and_then_some (λ lanes. option_and_then (finish_with seen workers lanes) (ranged seen.modules 1024 4096)) (ranged seen.lanes 2 16) c rest (λ lanes l more.
    option_and_then_some (finish_with seen workers lanes) (ranged seen.modules 1024 4096) c more (λ modules m last.
    made seen workers lanes modules c (form_of seen modules) w l m refl last)))

finish_tells : (seen : Seen) (c : Command) (waiting : Option Setting) → seen.waiting ≡ waiting → finish seen ≡ Some c → (seen.waiting ≡ None) × Tells (all_given seen) c
finish_tells seen c None none is = (none, tells_in seen c (sym (ap (λ o. if is_some o then None else told_in seen) none) ∙ is))
finish_tells seen c (Some s) some is = absurd (none-some c (sym (ap (λ o. if is_some o then None else told_in seen) some) ∙ is))

can_finish : (seen : Seen) (c : Command) → seen.waiting ≡ None → Tells (all_given seen) c → finish seen ≡ Some c
can_finish seen c none tells =
    ap (λ o. if is_some o then None else told_in seen) none
    ∙ ap (option_and_then (λ workers. option_and_then (λ lanes. option_and_then (finish_with seen workers lanes) (ranged seen.modules 1024 4096)) (ranged seen.lanes 2 16))) (is_ranged seen.workers 4 64 c.workers tells.workers tells.some_workers)
    ∙ ap (option_and_then (λ lanes. option_and_then (finish_with seen c.workers lanes) (ranged seen.modules 1024 4096))) (is_ranged seen.lanes 2 16 c.lanes tells.lanes tells.some_lanes)
    ∙ ap (option_and_then (finish_with seen c.workers c.lanes)) (is_ranged seen.modules 1024 4096 c.modules tells.modules tells.some_modules)
    ∙ ap (option_map (λ f. record { form = f; workers = c.workers; lanes = c.lanes; modules = c.modules })) (is_form seen.root seen.generated seen.seed c.modules c.form tells.form)

-- ---- words

no_more : (what : Told) → given what nothing ≡ []
no_more the_root = refl
no_more (the setting.Workers) = refl
no_more (the setting.Lanes) = refl
no_more (the setting.Modules) = refl
no_more (the setting.Generated) = refl
no_more (the setting.Seed) = refl

from_nothing : (after : Seen) (told : Told → List ℕ) → ((what : Told) → given what after ≡ given what nothing ++ told what) → all_given after ≡ told
from_nothing after told gives = λ i what. (gives what ∙ ap (λ l. l ++ told what) (no_more what)) i

says_of : (words : List Bytes) (c : Command) → command_of words ≡ Some c → Says words c
says_of words c is =
    option_and_then_some finish (walk 0 words nothing) c is (λ after walked end.
    let told = finish_tells after c after.waiting refl end in
    let all = reads words 0 0 None nothing after refl refl walked told.0 in
    record {
      pieces = all.pieces;
      spelled = all.spelled;
      each = all.each;
      tells = subst (λ t. Tells t c) (from_nothing after (λ what. told_from what 0 all.pieces) all.gives) told.1;
    })

one_of : (told : List ℕ) (default n : ℕ) → IsOr told default n → length told ≤ 1
one_of [] default n is = omega arith
one_of (x ∷ []) default n is = omega arith
one_of (x ∷ y ∷ more) default n is = absurd is

one_each : (roots numbers seeds : List ℕ) (most : ℕ) (form : Form) → IsForm roots numbers seeds most form → (length roots ≤ 1) × (length numbers ≤ 1) × (length seeds ≤ 1)
one_each (place ∷ []) [] [] most form is = (omega arith, omega arith, omega arith)
one_each [] (n ∷ []) (x ∷ []) most form is = (omega arith, omega arith, omega arith)
one_each roots numbers seeds most form is = absurd is

once_each : (told : Told → List ℕ) (c : Command) → Tells told c → (what : Told) → length (told what) ≤ 1
once_each told c tells the_root = (one_each _ _ _ c.modules c.form tells.form).0
once_each told c tells (the setting.Workers) = one_of _ 4 c.workers tells.workers
once_each told c tells (the setting.Lanes) = one_of _ 2 c.lanes tells.lanes
once_each told c tells (the setting.Modules) = one_of _ 1024 c.modules tells.modules
once_each told c tells (the setting.Generated) = (one_each _ _ _ c.modules c.form tells.form).1
once_each told c tells (the setting.Seed) = (one_each _ _ _ c.modules c.form tells.form).2

of_says : (words : List Bytes) (c : Command) → Says words c → command_of words ≡ Some c
of_says words c says =
    let few : (what : Told) → length (given what nothing ++ told_from what 0 says.pieces) ≤ 1 =
    λ what. subst (λ l. length (l ++ told_from what 0 says.pieces) ≤ 1) (sym (no_more what)) (once_each (λ what. told_from what 0 says.pieces) c says.tells what) in
    let walked = walks says.pieces 0 nothing refl says.each few in
    let end = can_finish walked.after c walked.done (subst (λ t. Tells t c) (sym (from_nothing walked.after (λ what. told_from what 0 says.pieces) walked.gives)) says.tells) in
    ap (λ w. option_and_then finish (walk 0 w nothing)) (sym says.spelled) ∙ ap (option_and_then finish) walked.walked ∙ end

-- ---- laws

pub says_command : (words : List Bytes) (result : Option Command) → result ≡ command_of words → IfSome result (Says words)
says_command words None is = tt
says_command words (Some c) is = says_of words c (sym is)

pub says_none : (words : List Bytes) (result : Option Command) → result ≡ command_of words → IfNone result (AreOfCommand words → ⊥)
says_none words None is = λ of. none-some of.0 (is ∙ of_says words of.0 of.1)
says_none words (Some c) is = tt

pub same_command : (words : List Bytes) (a b : Command) → Says words a → Says words b → a ≡ b
same_command words a b is also = same_Some a b (sym (of_says words a is) ∙ of_says words b also)

pub command_or_not : (words : List Bytes) → AreOfCommand words ⊎ (AreOfCommand words → ⊥)
command_or_not words = by (command_of words) refl where
  by : (o : Option Command) → command_of words ≡ o → AreOfCommand words ⊎ (AreOfCommand words → ⊥)
  by (Some c) is = inl (c, says_of words c is)
  by None is = inr (λ of. none-some of.0 (sym is ∙ of_says words of.0 of.1))

-- ---- the folder's word stands among the words

nil_cons : {x : ℕ} {xs : List ℕ} → ◌≡◌ {A = List ℕ} [] (x ∷ xs) → ⊥
nil_cons is = cc

same_first : (x y : ℕ) (xs ys : List ℕ) → x ∷ xs ≡ y ∷ ys → x ≡ y
same_first x y xs ys is = cc

same_place : (a b : ℕ) → ◌≡◌ {A = Form} (Folder a) (Folder b) → a ≡ b
same_place a b same = cc

apart_forms : (n x place : ℕ) → ◌≡◌ {A = Form} (Generated n x) (Folder place) → ⊥
apart_forms n x place same = cc

root_within : (pieces : List Piece) (place from : ℕ) → told_from the_root from pieces ≡ place ∷ [] → place < from + length (flat_map words_of pieces)
root_within [] place from is = absurd (nil_cons is)
root_within (root word ∷ pieces) place from is = let here : from ≡ place = same_first from place _ [] is in omega (arith, here)
root_within (joined s value ∷ pieces) place from is = omega (arith, root_within pieces place (from + 1) is)
root_within (apart s value ∷ pieces) place from is = omega (arith, root_within pieces place (from + 2) is)

folder_told : (roots numbers seeds : List ℕ) (most place : ℕ) (form : Form) → form ≡ Folder place → IsForm roots numbers seeds most form → roots ≡ place ∷ []
folder_told (at ∷ []) [] [] most place form folder is = ap (λ p. p ∷ []) (same_place at place (sym is ∙ folder))
folder_told [] (n ∷ []) (x ∷ []) most place form folder is = absurd (apart_forms n x place (sym is.0 ∙ folder))
folder_told roots numbers seeds most place form folder is = absurd is

pub place_within : (words : List Bytes) (c : Command) (place : ℕ) → Says words c → c.form ≡ Folder place → place < length words
place_within words c place says folder =
    let told : told_from the_root 0 says.pieces ≡ place ∷ [] = folder_told _ _ _ c.modules place c.form folder says.tells.form in
    subst (λ w. place < length w) says.spelled (let within : place < 0 + length (flat_map words_of says.pieces) = root_within says.pieces place 0 told in omega (arith, within))

-- ---- where the folder's word stands, by what the words tell

pub no_place : (words : List Bytes) → (AreOfCommand words → ⊥) → (c : Command) → Says words c → place_of c ≡ None
no_place words never c says = absurd (never (c, says))

pub place_is : (words : List Bytes) (c : Command) (result : Option ℕ) → Says words c → result ≡ place_of c → IfSome result (λ place. (d : Command) × Says words d × (place_of d ≡ Some place))
place_is words c None says is = tt
place_is words c (Some place) says is = (c, says, sym is)

pub none_is : (words : List Bytes) (c : Command) (result : Option ℕ) → Says words c → result ≡ place_of c → IfNone result ((d : Command) → Says words d → place_of d ≡ None)
none_is words c None says is = λ d also. ap place_of (same_command words d c also says) ∙ sym is
none_is words c (Some place) says is = tt

folder_at : (form : Form) (place : ℕ) → Some place ≡ place_in form → form ≡ Folder place
folder_at (Folder at) place is = ap Folder (same_Some at place (sym is))
folder_at (Generated n x) place is = absurd (none-some place (sym is))

pub within_is : {X : Type 0} (f : X → Bytes) (xs : List X) (c : Command) (result : Option ℕ) → Says (map f xs) c → result ≡ place_of c → IfSome result (λ place. place < length xs)
within_is f xs c None says is = tt
within_is f xs c (Some place) says is = subst (λ (n : ℕ). place < n) (length-map xs f) (place_within (map f xs) c place says (folder_at c.form place is))
