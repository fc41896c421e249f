-- What the program answers, by the contract of its top call.
use Rattle.std.proofs.Common.{◌≡◌, ℕ, zero, suc, ◌<◌, List, [], ◌∷◌, length, map, get_or, slice_get, Option, Some, None, refl, sym, ap, ◌∙◌, subst, arith}
use Rattle.std.proofs.lemmas.Option.{none-some, same_Some}
use Rattle.flow_base.specs.Causes.{raised, Counts}
use Rattle.flow_base.specs.Program.{Bytes}
use Rattle.flow_base.specs.Seen.{Outside, outside, folder_seen}
use Rattle.flow_base.specs.declared.outside.LastFault.{LastFault}
use Rattle.flow_base.specs.declared.outside.LastFault.TheVariants.{Never}
use Rattle.command_words.specs.Words.{Says, place_in, place_of}
use Rattle.command_words.specs.declared.command.Command.{Command}
use Rattle.command_words.specs.declared.command.Form.TheVariants.{Folder}
use Rattle.flowd_top.specs.Run.{Leaves, Server}
use Rattle.flowd_top.specs.declared.status.Status.{Status}
use Rattle.flowd_top.specs.declared.status.Status.TheVariants as status
use Rattle.flowd_top.proofs.Endings.{nothing_left}
use Rattle.flowd.specs.Answer.{untouched, IsAnswer}

-- a run that did nothing for want of memory
pub nothing_done : (words : List Bytes) → IsAnswer words status.NoMemory
nothing_done words = record {
  now = untouched;
  kept = None;
  leaves = (nothing_left words untouched untouched None refl, refl);
  script_counts = record { later = omega arith; rises = λ is. absurd (cc (is)); stays = λ other. refl };
  sink_counts = record { later = omega arith; rises = λ is. absurd (cc (is)); stays = λ other. refl };
  folder_fault = λ is. absurd (cc (is));
}

-- the real ends as they are opened
opened : (m : ℕ) (l : LastFault) (s k : ℕ) → m ≡ 0 → l ≡ Never → s ≡ 0 → k ≡ 0 → outside (folder_seen None m l) (record { left = None; faults = s }) (record { written = None; faults = k }) ≡ untouched
opened m l s k folder last script out = cc

pub answered : (words : List Bytes) (result : Status) (m : ℕ) (l : LastFault) (s k : ℕ) (now : Outside) (kept : Option Server) → m ≡ 0 → l ≡ Never → s ≡ 0 → k ≡ 0
    → Leaves result words (outside (folder_seen None m l) (record { left = None; faults = s }) (record { written = None; faults = k })) now kept → Counts (result ≡ status.ScriptFault) s now.script.faults
    → Counts (result ≡ status.SinkFault) k now.out.faults → (result ≡ status.FolderFault → now.folder.faults ≡ raised m) → IsAnswer words result
answered words result m l s k now kept folder last script out leaves script_counts sink_counts folder_fault = record {
  now = now;
  kept = kept;
  leaves = subst (λ before. Leaves result words before now kept) (opened m l s k folder last script out) leaves;
  script_counts = subst (λ (n : ℕ). Counts (result ≡ status.ScriptFault) n now.script.faults) script script_counts;
  sink_counts = subst (λ (n : ℕ). Counts (result ≡ status.SinkFault) n now.out.faults) out sink_counts;
  folder_fault = subst (λ (n : ℕ). result ≡ status.FolderFault → now.folder.faults ≡ raised n) folder folder_fault;
}

-- ---- the folder's word

-- the words tell one command, so the place of its folder is the one that was found
pub that_place : (words : List Bytes) (p : ℕ) (found : Bytes) → ((w : List Bytes) (a b : Command) → Says w a → Says w b → a ≡ b) → ((d : Command) × Says words d × (place_of d ≡ Some p)) → slice_get words p ≡ Some found
    → (c : Command) (place : ℕ) → Says words c → c.form ≡ Folder place → slice_get words place ≡ Some found
that_place words p found one (d, says, is) at c place told folder =
    let there : Some p ≡ Some place = sym is ∙ ap place_of (one words d c says told) ∙ ap place_in folder in
    subst (λ n. slice_get words n ≡ Some found) (same_Some p place there) at

-- where there is none, the words tell no folder
pub no_word : (words : List Bytes) (found : Bytes) → ((d : Command) → Says words d → place_of d ≡ None) → (c : Command) (place : ℕ) → Says words c → c.form ≡ Folder place → slice_get words place ≡ Some found
no_word words found none c place told folder = absurd (none-some place (sym (none c told) ∙ ap place_in folder))

-- a word at its place
pub word_at : {A B : Type 0} (f : A → B) (xs : List A) (p : ℕ) (x : A) (y : B) → p < length xs → x ≡ get_or xs p x → y ≡ f x → slice_get (map f xs) p ≡ Some y
word_at f [] p x y within is e = absurd (omega arith)
word_at f (z ∷ zs) zero x y within is e = ap Some (sym (e ∙ ap f is))
word_at f (z ∷ zs) (suc p) x y within is e = word_at f zs p x y (omega arith) is e
