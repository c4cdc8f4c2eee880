use Rattle.std.proofs.Common.{rules, ◌≡◌, ◌≤◌, ◌-◌, ◌++◌, length, refl}
use Rattle.std.proofs.lemmas.Result.{on_ok_weaker}
use Rattle.events_replaced.specs.StandingEvents.{fields_before}
use Rattle.events_replaced.proofs.StandLemmas.{plain_appended}
use Rattle.events_replaced.proofs.mariadb_translator.MariadbTranslator.put_decompressed.Goals as goal

pub returns-clause-ok : goal.returns-clause-ok
returns-clause-ok c =
    let event = c.args.event.now in
    let packed = c.in-Some.packed.now in
    let before = c.in-Some-checked_sub.before in
    let fits : length packed ≤ length event = search rules in
    let is : before ≡ length event - length packed = search rules in
    let long : 19 ≤ before = search rules in
    let fields : c.split_at-2.result.1.now ≡ fields_before event packed = search rules in
    let mid : c.extend_from_slice.new.self.items ≡ c.put_header.new.out.items ++ c.split_at-2.result.1.now = search rules in
    on_ok_weaker c.decompress.result
    (plain_appended c.args.mariadb_type event packed before c.in-Some.ensures fits is long _ c.put_header.new.out.items _ _ _ _ _ _ _ c.in_ok-compressed.ensures.ok c.plain_number.ensures refl c.in_ok-put_header.ensures.made fields mid) c.decompress.ensures.ok
