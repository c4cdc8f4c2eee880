use Rattle.std.proofs.Common.{ℕ, map}
use Rattle.std.specs.Global.{Vec}
use Rattle.rows_table_map.specs.MetadataViews.{value_view, values_view}
use Rattle.changes_tables.specs.MemberTexts.{IsMemberJson}
use Rattle.changes_tables.proofs.MemberLemmas.{text_pushed, text_alone, texts_all}
use Rattle.changes_tables.proofs.members.member_texts.Goals as goal

pub loop-member-preserved : goal.loop-member-preserved
loop-member-preserved c =
    text_pushed (IsMemberJson c.args.shown) value_view c.values-member-items.result.now c.loop-member.member-index c.member-item.result c.loop-member.texts.items c.push.new.self.items c.append_text.new.out
    c.loop-member.invariant c.loop-member-test.true c.member-item.is
    (text_alone (IsMemberJson c.args.shown) c.value_raw.result.now (value_view c.member-item.result) c.new-text.result.items c.append_text.new.out.items c.in_ok-append_text.ensures c.new-text.ensures.items c.value_raw.ensures)
    c.in_ok-push.ensures.items

pub returns : goal.returns
returns c =
    texts_all (IsMemberJson c.args.shown) value_view c.values-member-items.result.now c.loop-member.member-index (values_view c.args.members.now) (map (λ (t : Vec ℕ). t.items) c.loop-member.texts.items)
    c.loop-member.invariant c.loop-member-test.false c.values-member-items.ensures
