-- The arrays and tuples among members, one after another.
use Rattle.std.proofs.Common.{◌≡◌, ℕ, ◌+◌, ◌<◌, ◌≤◌, true, false, List, ◌∷◌, ◌++◌, length, drop, get_or, Option, Some, None, refl, sym, ap, ◌∙◌, append-nil}
use Rattle.std.proofs.lemmas.List.{drop_all}
use Rattle.std.specs.Borrow.{Bor}
use Rattle.std.specs.List.{cons_option, filter_map}
use Rattle.std.specs.Option.{option_map, is_some, option_to_list}
use Rattle.type_values.specs.declared.types.FlowType.{FlowType, out-FlowType}
use Rattle.typing.specs.Objects as typing
use Rattle.check_world.proofs.Levels.{levels_left}
use Rattle.literal_reads.specs.declared.elements.Elements.{Elements}
use Rattle.literal_reads.specs.View.{elements_view, levels_seen}

-- the lists are the one that was found, and those of the members that are left
abbrev pub AreLists : List (Bor FlowType) → ℕ → Option Elements → Type 0
AreLists members i found = filter_map typing.list_of (levels_seen members) ≡ option_to_list (option_map elements_view found) ++ filter_map typing.list_of (levels_seen (drop i members))

with_rest : (x : Option typing.Elements) (rest : List typing.Elements) → cons_option x rest ≡ option_to_list x ++ rest
with_rest None rest = refl
with_rest (Some e) rest = refl

lists_at : (members : List (Bor FlowType)) (i : ℕ) (member : Bor FlowType) (o : Option Elements) → i < length members → member ≡ get_or members i member → option_map elements_view o ≡ typing.list_of (out-FlowType member.now) →
    filter_map typing.list_of (levels_seen (drop i members)) ≡ option_to_list (option_map elements_view o) ++ filter_map typing.list_of (levels_seen (drop (i + 1) members))
lists_at members i member o within at is =
    ap (filter_map typing.list_of) (levels_left members i member within at) ∙ with_rest (typing.list_of (out-FlowType member.now)) (filter_map typing.list_of (levels_seen (drop (i + 1) members)))
    ∙ ap (λ (x : Option typing.Elements). option_to_list x ++ filter_map typing.list_of (levels_seen (drop (i + 1) members))) (sym is)

pub list_none : (members : List (Bor FlowType)) → AreLists members 0 None
list_none members = refl

pub list_next : (members : List (Bor FlowType)) (i : ℕ) (member : Bor FlowType) (o found : Option Elements) (e : Elements) → i < length members → member ≡ get_or members i member →
    option_map elements_view o ≡ typing.list_of (out-FlowType member.now) → o ≡ Some e → is_some found ≡ false → AreLists members i found → AreLists members (i + 1) (Some e)
list_next members i member o found e within at is some none_found so_far = go found none_found so_far
  where
    go : (f : Option Elements) → is_some f ≡ false → AreLists members i f → AreLists members (i + 1) (Some e)
    go (Some f) h l = absurd (cc)
    go None h l = l ∙ lists_at members i member o within at is ∙ ap (λ (x : Option Elements). option_to_list (option_map elements_view x) ++ filter_map typing.list_of (levels_seen (drop (i + 1) members))) some

pub list_not : (members : List (Bor FlowType)) (i : ℕ) (member : Bor FlowType) (o found : Option Elements) → i < length members → member ≡ get_or members i member →
    option_map elements_view o ≡ typing.list_of (out-FlowType member.now) → o ≡ None → AreLists members i found → AreLists members (i + 1) found
list_not members i member o found within at is none_here so_far =
    so_far ∙ ap (λ (l : List typing.Elements). option_to_list (option_map elements_view found) ++ l)
    (lists_at members i member o within at is ∙ ap (λ (x : Option Elements). option_to_list (option_map elements_view x) ++ filter_map typing.list_of (levels_seen (drop (i + 1) members))) none_here)

two_apart : (count : ℕ) (a b : typing.Elements) (more : List typing.Elements) → None ≡ typing.list_of_length count (a ∷ b ∷ more)
two_apart count (typing.elements_of element) b more = refl
two_apart count (typing.elements_in all) b more = refl

pub list_two : (members : List (Bor FlowType)) (i count : ℕ) (member : Bor FlowType) (o found : Option Elements) (e : Elements) → i < length members → member ≡ get_or members i member →
    option_map elements_view o ≡ typing.list_of (out-FlowType member.now) → o ≡ Some e → is_some found ≡ true → AreLists members i found → None ≡ typing.list_of_length count (filter_map typing.list_of (levels_seen members))
list_two members i count member o found e within at is some one_found so_far = go found one_found so_far
  where
    go : (f : Option Elements) → is_some f ≡ true → AreLists members i f → None ≡ typing.list_of_length count (filter_map typing.list_of (levels_seen members))
    go None h l = absurd (cc)
    go (Some f) h l =
        two_apart count (elements_view f) (elements_view e) (filter_map typing.list_of (levels_seen (drop (i + 1) members)))
        ∙ ap (typing.list_of_length count) (sym (l ∙ ap (λ (k : List typing.Elements). elements_view f ∷ k) (lists_at members i member o within at is ∙ ap (λ (x : Option Elements). option_to_list (option_map elements_view x) ++ filter_map typing.list_of (levels_seen (drop (i + 1) members))) some)))

pub list_all : (members : List (Bor FlowType)) (i : ℕ) (found : Option Elements) → length members ≤ i → AreLists members i found → option_to_list (option_map elements_view found) ≡ filter_map typing.list_of (levels_seen members)
list_all members i found long is =
    sym (is ∙ ap (λ (l : List (Bor FlowType)). option_to_list (option_map elements_view found) ++ filter_map typing.list_of (levels_seen l)) (drop_all i members long) ∙ append-nil (option_to_list (option_map elements_view found)))
