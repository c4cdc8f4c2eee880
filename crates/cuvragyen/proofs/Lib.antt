mod ExportLemmas
