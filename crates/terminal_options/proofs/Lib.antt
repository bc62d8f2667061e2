mod NumberLemmas
mod ProgramLemmas
