use Rattle.std.proofs.Common.{rules, ◌≡◌, ℕ, ◌+◌, ◌-◌, ◌*◌, [], ◌∷◌, ◌++◌, length, replicate, slice_get, sym, ap, ◌∙◌, arith, refl, Some, None}
use Rattle.std.proofs.lemmas.List.{length-replicate}
use Rattle.atomic_table.specs.Table.{rest}
use Rattle.std.specs.Arc.{arc_value}
use Rattle.entity_heap.specs.Rule.{spot, pick}
use Rattle.entity_heap.specs.Plans.{plan_of, fill_at, reaching}
use Rattle.entity_heap.specs.declared.board.Reach.{Reach}
use Rattle.entity_heap.specs.declared.board.Fill.{Fill}
use Rattle.entity_heap.specs.declared.board.Plan.{Plan}
use Rattle.entity_heap.specs.declared.board.Role.TheVariants.{Writes}
use Rattle.entity_heap.proofs.WriterSteps.{reaches, fills}
use Rattle.entity_heap.proofs.Lists.{all_same}
use Rattle.entity_heap.proofs.Fills.{fill_goes, fill_is, fill_more}
use Rattle.entity_heap.proofs.steps.slots.fill.Goals as goal

pub load-word-requires : goal.load-word-requires
load-word-requires g c = let w = c.requires.writer in let z = c.requires.fill in let s = c.requires.small in let x = arc_value c.args.payload in let q = plan_of c.args.place.now.me.0 in
    let l = length-replicate c.args.lane x in
    (search rules, omega arith, reaches g.P.Program.fits _ _ _ _ q (record { entity = c.args.e; payloads = replicate c.args.lane x }) (ap (λ m. m.0) w.0) (w.4, w.3, omega arith, omega arith, fill_goes c.args.lane c.args.e x q.fill z.0) refl (fill_is c.args.lane c.args.e x q.fill z.0))

pub exchange-requires : goal.exchange-requires
exchange-requires g c = let w = c.requires.writer in let z = c.requires.fill in let x = arc_value c.args.payload in let q = plan_of c.args.place.now.me.0 in let did = c.load-word.ensures.2 c.args.e refl in
    let f = fill_at q.fill c.args.e in let same = fill_is c.args.lane c.args.e x q.fill z.0 in let slot : ℕ = 2 * (c.args.lane * c.args.entities + c.args.e) + (1 - c.bit_for.result) in
    let long : length f.payloads ≡ c.args.lane = ap (λ (y : Fill g.row.P.Denot). length y.payloads) same ∙ length-replicate c.args.lane x in
    let kk : spot q.entities (length f.payloads) f.entity (1 - pick c.load-word.result q.version) ≡ slot = (λ j. spot (w.1 j) (long j) (same j).entity (1 - (ap (pick c.load-word.result) w.2 ∙ sym c.bit_for.ensures.value) j)) in
    let old = c.args.place.now.me.1 in let carried = ap (λ m. m.1) did.1 ∙ (λ j. (kk j, did.0) ∷ old) in
    (search rules, (did.0, carried ∙ ap (λ cs. (slot, did.0) ∷ rest cs) (sym carried)))

pub load-requires : goal.load-requires
load-requires g c = let w = c.requires.writer in let z = c.requires.fill in let s = c.requires.small in let x = arc_value c.args.payload in let q = plan_of c.args.place.now.me.0 in let did = c.load-word.ensures.2 c.args.e refl in
    let f = fill_at q.fill c.args.e in let same = fill_is c.args.lane c.args.e x q.fill z.0 in let slot : ℕ = 2 * (c.args.lane * c.args.entities + c.args.e) + (1 - c.bit_for.result) in
    let k : ℕ = spot q.entities (length f.payloads) f.entity (1 - pick c.load-word.result q.version) in
    let long : length f.payloads ≡ c.args.lane = ap (λ (y : Fill g.row.P.Denot). length y.payloads) same ∙ length-replicate c.args.lane x in
    let kk : k ≡ slot = (λ j. spot (w.1 j) (long j) (same j).entity (1 - (ap (pick c.load-word.result) w.2 ∙ sym c.bit_for.ensures.value) j)) in
    let now = c.exchange.ensures.3 in let r : Reach = record { lane = length f.payloads; slot = k } in
    let carried = ap (λ m. m.1) now ∙ ((λ j. (sym kk j, Some c.args.payload) ∷ rest (ap (λ m. m.1) did.1 j)) ∙ ap (λ cs. (k, Some c.args.payload) ∷ cs) (ap (λ m. m.1) w.0)) in (
      search rules,
      omega arith,
      fills g.P.Program.fits _ _ _ _ (reaching q f k) r f c.args.payload (ap (λ m. m.0) now ∙ ap (λ m. m.0) did.1) refl refl carried
          (λ i y got. sym (all_same c.args.lane i x y (ap (λ (z : Fill g.row.P.Denot). slice_get z.payloads i) (sym same) ∙ got))),
    )

pub returns-clause-filled : goal.returns-clause-filled
returns-clause-filled g c = let w = c.requires.writer in let z = c.requires.fill in let x = arc_value c.args.payload in let q = plan_of c.args.place.now.me.0 in let did = c.load-word.ensures.2 c.args.e refl in
    let f = fill_at q.fill c.args.e in let same = fill_is c.args.lane c.args.e x q.fill z.0 in let slot : ℕ = 2 * (c.args.lane * c.args.entities + c.args.e) + (1 - c.bit_for.result) in
    let k : ℕ = spot q.entities (length f.payloads) f.entity (1 - pick c.load-word.result q.version) in
    let now = c.exchange.ensures.3 in
    let carried = ap (λ m. m.1) now ∙ ((λ j. (slot, Some c.args.payload) ∷ rest (ap (λ m. m.1) did.1 j)) ∙ ap (λ cs. (slot, Some c.args.payload) ∷ cs) (ap (λ m. m.1) w.0)) in
    let vis = ap (λ m. plan_of m.0) now ∙ ap (λ m. plan_of m.0) did.1 in
    let more = fill_more c.args.lane (c.args.lane + 1) c.args.e x f (omega arith) same in
    c.load.ensures.2 slot c.args.payload f carried (ap (λ (y : Plan g.row.P.Denot). y.fill) vis)
    ∙ ((λ j. let y : Plan g.row.P.Denot = record (vis j) { hand = None; fill = Some (record f { payloads = f.payloads ++ x ∷ [] }) } in (Writes y, []))
    ∙ (λ j. let y : Plan g.row.P.Denot = record q { hand = sym w.4 j; fill = more j } in (Writes y, [])))
