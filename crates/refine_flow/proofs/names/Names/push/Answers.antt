use Rattle.std.proofs.Common.{[], ◌∷◌, ◌++◌, ◌≡◌, length, ap, ◌∙◌, arith}
use Rattle.std.specs.Ordering.{nat_cmp}
use Rattle.std.specs.Cmp.Lexicographic.{slice_cmp}
use Rattle.std.specs.BTreeMap.{get}
use Rattle.refine_flow.specs.Numbers.{number_of}
use Rattle.refine_flow.proofs.Growing.{names_told, names_numbered, names_grown}
use Rattle.refine_flow.proofs.names.Names.push.Goals as goal

pub invariant_of-self-2 : goal.invariant_of-self-2
invariant_of-self-2 c =
    let before = c.args.self.now in
    let more = c.push_reserved.ensures.items ∙ ap (λ l. l ++ c.args.name ∷ []) c.reserve.ensures.items in
    let updates = c.in_ok-insert.ensures.updates in
    let last : c.len-number.result ≡ length c.args.self.now.texts.items = omega (arith, c.len-number.ensures, c.args.self.now.texts.ok.0) in
    record {
      told = names_told (number_of before) (get (slice_cmp nat_cmp) c.insert.new.self) before.texts.items c.push_reserved.new.self.items c.args.name c.args.key c.len-number.result more c.requires.same last before.told updates.2 updates.1;
      numbered = names_numbered (number_of before) (get (slice_cmp nat_cmp) c.insert.new.self) before.texts.items c.push_reserved.new.self.items c.args.name c.args.key c.len-number.result more c.requires.same last c.requires.none before.numbered
          updates.2 updates.1;
    }

pub returns-clause-grows : goal.returns-clause-grows
returns-clause-grows c =
    let updates = c.in_ok-insert.ensures.updates in
    let last : c.len-number.result ≡ length c.args.self.now.texts.items = omega (arith, c.len-number.ensures, c.args.self.now.texts.ok.0) in
    names_grown c.args.self.now (get (slice_cmp nat_cmp) c.insert.new.self) c.push_reserved.new.self.items c.args.name c.args.key c.len-number.result (c.push_reserved.ensures.items ∙ ap (λ l. l ++ c.args.name ∷ []) c.reserve.ensures.items) c.requires.same
    last c.requires.none updates.2 updates.1
