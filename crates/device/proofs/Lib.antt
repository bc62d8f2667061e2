mod SinkLemmas
