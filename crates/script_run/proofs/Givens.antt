-- The bytes that a script gave, and those that it has left.
use Rattle.std.proofs.Common.{◌≡◌, List, [], ◌++◌, Option, Some, None, refl, sym, ap, ◌∙◌, subst, append_assoc}
use Rattle.std.specs.Option.{option_map}
use Rattle.flow_base.specs.Program.{Bytes}
use Rattle.script_reader.specs.Lines.{script_lines, bytes_left, lines_left, TakesBytes, TakesFront, BreaksLine}
use Rattle.script_run.specs.Steps.{TookAllGiven}

nothing_given : (script : Option Bytes) → TakesBytes [] script (bytes_left [] script)
nothing_given None = refl
nothing_given (Some bytes) = refl

pub begins : (script : Option Bytes) (ahead : Bytes) → ahead ≡ [] → TakesFront script (bytes_left ahead script)
begins script ahead none = ([], subst (λ a. TakesBytes [] script (bytes_left a script)) (sym none) (nothing_given script))

pub then_front : (before mid after : Option Bytes) → TakesFront before mid → TakesFront mid after → TakesFront before after
then_front before mid None (a, first) (b, second) = (a ++ b, first ∙ ap (option_map (λ rest. a ++ rest)) second)
then_front before mid (Some rest) (a, first) (b, second) = (a ++ b, first ∙ ap (option_map (λ rest. a ++ rest)) second ∙ ap Some (sym (append_assoc a b rest)))

bytes_flat : (front part : Bytes) (left : Option Bytes) →
    option_map (λ rest. front ++ rest) (option_map (λ rest. part ++ rest) (bytes_left [] left)) ≡ option_map (λ rest. front ++ (part ++ rest)) left
bytes_flat front part None = refl
bytes_flat front part (Some rest) = refl

lines_flat : (taken : List Bytes) (part : Bytes) (left : Option Bytes) →
    option_map (λ rest. taken ++ rest) (option_map script_lines (option_map (λ rest. part ++ rest) (bytes_left [] left))) ≡ option_map (λ rest. taken ++ script_lines (part ++ rest)) left
lines_flat taken part None = refl
lines_flat taken part (Some rest) = refl

-- the next line broke off, and nothing was read ahead
pub took_all : (taken : List Bytes) (script before left : Option Bytes) (ahead : Bytes) → lines_left [] script ≡ option_map (λ rest. taken ++ rest) (option_map script_lines before) → TakesFront script before
    → ahead ≡ [] → BreaksLine before (bytes_left ahead left) → TookAllGiven taken script left
took_all taken script before left ahead lines (front, given) none (part, no_feed, broken) =
    let broke : TakesBytes part before (bytes_left [] left) = subst (λ a. TakesBytes part before (bytes_left a left)) none broken in
    record {
      front = front;
      part = part;
      no_feed = no_feed;
      given = given ∙ ap (option_map (λ rest. front ++ rest)) broke ∙ bytes_flat front part left;
      lines = lines ∙ ap (λ b. option_map (λ rest. taken ++ rest) (option_map script_lines b)) broke ∙ lines_flat taken part left;
    }
