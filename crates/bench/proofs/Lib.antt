mod StoreLemmas
