-- The code's tagged GTID for the definitions'.
use Rattle.changes_origins.specs.TaggedGtids as defined
use Rattle.changes_origins.specs.declared.tagged_gtid.TaggedGtid.{TaggedGtid}

abbrev pub gtid_view : TaggedGtid → defined.TaggedGtid
gtid_view g = record { uuid = g.uuid; tag = g.tag.now; number = g.number }
