use Rattle.std.proofs.Common.{◌≡◌, ◌++◌, length, take, ap, ◌∙◌, arith, rules}
use Rattle.std.proofs.lemmas.List.{with_items_is}
use Rattle.feed_text.proofs.buffer.TextBuffer.put_short_cells.Goals as goal

pub returns : goal.returns
returns g c =
    let put = c.put_fields-end.ensures in
    let room = c.reserve-asked.new.self in
    let size : length c.put_fields-end.new.text ≡ room.bytes.len = search (arith, rules) in record {
      text = put.text;
      gives = put.gives;
      appended =
          ap (take c.put_fields-end.result.0) (with_items_is room.bytes c.put_fields-end.new.text size) ∙ put.written ∙ ap (λ t. t ++ put.text) (ap (take room.len) c.as_mut_slice.ensures.value ∙ c.reserve-asked.ensures.text);
    }
