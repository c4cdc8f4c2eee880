use Rattle.changes_tables.proofs.texts.append_text.Goals as goal

pub returns-in-Text : goal.returns-in-Text
returns-in-Text c = rw c.in-Text.is c.append_text_in.ensures
