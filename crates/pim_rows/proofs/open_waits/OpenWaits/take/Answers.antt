use Rattle.std.proofs.Common.{None, ap, sym, ◌∙◌, arith, unwrap_or}
use Rattle.pim_rows.proofs.Opening.{get_place, set_place, set_but}
use Rattle.pim_rows.proofs.open_waits.OpenWaits.take.Goals as goal

pub returns-clause-here : goal.returns-clause-here
returns-clause-here c =
    let h = c.if-len-place.false in let k = c.len.ensures in
    c.take.ensures.value ∙ c.index_mut.ensures.value
    ∙ sym (ap (λ o. unwrap_or o None) (get_place
    c.args.self.now.opens.items c.args.place _ c.if-place-eq0.false (omega (arith, h, k))))

pub returns-clause-gone : goal.returns-clause-gone
returns-clause-gone c =
    let h = c.if-len-place.false in let k = c.len.ensures in
    ap (λ o. unwrap_or o None) (set_place c.args.self.now.opens.items
    c.args.place c.take.new.self c.if-place-eq0.false (omega (arith, h, k)))
    ∙ c.take.ensures.after

pub returns-clause-others : goal.returns-clause-others
returns-clause-others c t ne =
    set_but c.args.self.now.opens.items c.args.place t _ c.if-place-eq0.false ne
