pub mod CodeLaws
pub mod StateLaws
pub mod PieceLaws
pub mod InCalls
