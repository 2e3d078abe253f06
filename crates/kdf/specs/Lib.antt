pub mod CounterMode
