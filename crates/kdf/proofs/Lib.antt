pub mod CounterModeLaws
