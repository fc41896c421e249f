use Rattle.std.proofs.Common.{◌≡◌, sym, ◌∙◌, ap, ℕ, []}
use Rattle.js_grammar.specs.Items.{Items, Module, module_of, spell_module, stop_items, FitsModule}
use Rattle.code_law.specs.Machine.{whole_items, read_module}
use Rattle.code_law.proofs.Modules.{reads_items}
use Rattle.code_law.proofs.one_module.Goals as goal

same_items : (a b : Items) → whole_items a [] ≡ whole_items b [] → a ≡ b
same_items a b e = cc

same_module : (f t g u : ℕ) (a b : Items) → f ≡ g → t ≡ u → a ≡ b → module_of f t a ≡ module_of g u b
same_module f t g u a b p q r = cc

one : (a b : Module) → FitsModule a → FitsModule b → spell_module a ≡ spell_module b → a ≡ b
one (module_of f t a) (module_of g u b) h j e =
    let r = same_items a b (sym (reads_items a (h.2)) ∙ ap read_module e ∙ reads_items b (j.2)) in
    same_module f t g u a b (h.0 ∙ sym (j.0)) (h.1 ∙ ap (λ a. stop_items a 0) r ∙ sym (j.1)) r

pub returns : goal.returns
returns c a b f g e = one a b f g e
